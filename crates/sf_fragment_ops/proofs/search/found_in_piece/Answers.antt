use Rattle.std.proofs.Common.{◌≡◌, ℕ, ◌-◌, List, length, drop, sym, ap, ◌∙◌, subst}
use Rattle.std.specs.Prelude.{replicate}
use Rattle.std.proofs.lemmas.List.{drop-replicate}
use Rattle.sf_types.specs.Values.Marks.{bytes_in}
use Rattle.memchr.specs.Find.{FindsNeedle}
use Rattle.sf_chunk_map.specs.Pieces.{marked_of}
use Rattle.sf_chunk_map.proofs.PieceLemmas.{rest_of}
use Rattle.sf_fragment_ops.proofs.search.found_in_piece.Goals as goal

pub returns-in-Some : goal.returns-in-Some
returns-in-Some c =
    subst (λ (xs : List ℕ). FindsNeedle xs c.args.finder.now 0 c.find.result)
    (rest_of c.args.from c.in-Some.bytes.now ∙ ap (drop c.args.from) c.in-Some.ensures) c.find.ensures

pub returns-in-None : goal.returns-in-None
returns-in-None c =
    let marked = marked_of c.args.piece.now in
    let zeros : replicate (c.size.result - c.args.from) 0 ≡ drop c.args.from (bytes_in marked) =
    ap (λ (n : ℕ). replicate (n - c.args.from) 0) c.size.ensures.size
    ∙ sym (drop-replicate c.args.from (length marked) 0)
    ∙ ap (drop c.args.from) (sym c.in-None.ensures) in
    subst (λ (xs : List ℕ). FindsNeedle xs c.args.finder.now 0 c.found_in_zeros.result) zeros
    (subst (λ (p : List ℕ). FindsNeedle (replicate (c.size.result - c.args.from) 0) p 0 c.found_in_zeros.result) c.needle.ensures c.found_in_zeros.ensures)
