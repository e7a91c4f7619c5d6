use Rattle.std.proofs.Common.{◌≡◌, ℕ, List, [], ◌++◌, length, take, drop, sym, ap, ◌∙◌, arith}
use Rattle.std.proofs.lemmas.List.{length-map, length-drop, drop-map}
use Rattle.sf_types.specs.Values.Marks.{Marked, bytes_in}
use Rattle.sf_piece_tree.specs.Walks.{units_from, shown_content}
use Rattle.sf_piece_tree.proofs.WalkLemmas.{shown-from}
use Rattle.sf_chunk_map.specs.Pieces.{marked_of, marked_in}
use Rattle.sf_chunk_map.proofs.ReadingLemmas.{walk_reads}
use Rattle.sf_chunk_map.proofs.reading.read_tree.Goals as goal

pub returns : goal.returns
returns c =
    let pieces = c.args.tree.now in
    let shown = units_from marked_of pieces c.args.at in
    let before = c.args.reading.now in
    let after = c.visit_from.new.visitor in
    let start = before.into.now in
    let into : start ≡ drop before.done start = ap (λ (n : ℕ). drop n start) (sym c.requires) in
    let reads = walk_reads start [] shown before after _ c.visit_from.ensures into (sym c.requires) (omega (arith, c.requires)) in
    let bytes : bytes_in (shown_content marked_of shown) ≡ drop c.args.at (bytes_in (marked_in pieces)) =
    ap (λ (xs : List Marked). bytes_in xs) (shown-from marked_of pieces c.args.at)
    ∙ sym (drop-map (λ (m : Marked). m.byte) c.args.at (marked_in pieces)) in
    record {
      same_reference = reads.same_reference;
      count = omega (
        arith,
        reads.count,
        c.requires,
        ap (λ (xs : List Marked). length xs) (shown-from marked_of pieces c.args.at),
        length-map (shown_content marked_of shown) (λ (m : Marked). m.byte),
        length-drop c.args.at (marked_in pieces),
      );
      bytes =
          reads.into
          ∙ ap (λ (n : ℕ). take n (bytes_in (shown_content marked_of shown)) ++ drop after.done start) (omega (arith, c.requires))
          ∙ ap (λ (xs : List ℕ). take after.done xs ++ drop after.done start) bytes;
    }
