use Rattle.std.proofs.Common.{◌≡◌, ℕ, ◌-◌, List, length, drop, sym, ap, ◌∙◌, subst, arith}
use Rattle.std.proofs.lemmas.List.{length-map}
use Rattle.sf_types.specs.Values.Marks.{Marked, bytes_in, strip}
use Rattle.memchr.specs.Find.{FindsNeedle}
use Rattle.sf_chunk_map.specs.Contents.{window}
use Rattle.sf_chunk_map.specs.Pieces.{marked_of}
use Rattle.sf_chunk_map.proofs.LendingLemmas.{rest_of_piece, piece_within}
use Rattle.sf_fragment_ops.proofs.search.look_at.Goals as goal

pub returns-clause-look : goal.returns-clause-look
returns-clause-look c =
    let value = c.args.value.now in
    let piece = c.in-Some.piece.now in
    let from = c.in-Some.from in
    let rest = c.size.result - from in
    let is : drop from (bytes_in (marked_of piece)) ≡ window c.args.at rest (strip value) =
    sym (rest_of_piece value c.args.at piece from c.in-Some.ensures) ∙ ap (λ (n : ℕ). window c.args.at (n - from) (strip value)) (sym c.size.ensures.size) in
    record {
      room = omega (arith, c.if-rest-needle.false, ap (λ (xs : List ℕ). length xs) c.needle.ensures);
      within = omega (
        arith,
        c.size.ensures.size,
        length-map value.bytes (λ (m : Marked). m.byte),
        piece_within value c.args.at piece from c.in-Some.ensures,
      );
      found = subst (λ (xs : List ℕ). FindsNeedle xs c.args.finder.now 0 c.found_in_piece.result) is c.found_in_piece.ensures;
    }
