use Rattle.std.proofs.Common.{◌≡◌, ℕ, ◌+◌, ◌-◌, List, ◌++◌, length, take, drop, sym, ap, ◌∙◌, arith}
use Rattle.std.proofs.lemmas.List.{length-drop, take_all}
use Rattle.sf_types.specs.Values.Marks.{Marked}
use Rattle.sf_chunk_map.specs.Pieces.{marked_of, marked_in}
use Rattle.sf_chunk_map.proofs.TreeLemmas.{more_bytes}
use Rattle.sf_chunk_map.proofs.maximal.rest_at.Goals as goal

pub returns : goal.returns
returns c =
    let marked = marked_of c.in-Some.piece.now in
    let from = c.in-Some.from in
    let whole = marked_in c.args.tree.now in
    let size : c.size.result - from ≡ length marked - from = ap (λ (n : ℕ). n - from) c.size.ensures.size in
    let rest : marked_of c.in_ok-part_of.field-0 ≡ drop from marked =
    c.in_ok-part_of.ensures
    ∙ ap (λ (n : ℕ). take n (drop from marked)) size
    ∙ take_all (length marked - from) (drop from marked) (omega (arith, length-drop from marked)) in
    let count : length (marked_of c.in_ok-part_of.field-0) ≡ length marked - from = ap (λ (ms : List Marked). length ms) rest ∙ length-drop from marked in
    ap (λ (n : ℕ). take (c.args.at + n) whole) count
    ∙ more_bytes c.args.tree.now c.args.at c.in-Some.piece.now from c.in-Some.ensures
    ∙ ap (λ (ms : List Marked). take c.args.at whole ++ ms) (sym rest)
