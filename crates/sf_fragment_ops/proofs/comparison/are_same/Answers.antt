use Rattle.std.proofs.Common.{◌≡◌, ℕ, ◌+◌, ◌≤◌, List, length, sym, ap, ◌∙◌, arith}
use Rattle.std.specs.Prelude.{bytes_eq, replicate}
use Rattle.std.proofs.lemmas.List.{length-map}
use Rattle.std.proofs.lemmas.Slice.Eq.{bytes_eq-Decides}
use Rattle.sf_types.specs.Values.Marks.{Marked, bytes_in}
use Rattle.sf_chunk_map.specs.Contents.{window}
use Rattle.sf_chunk_map.specs.Pieces.{marked_of}
use Rattle.sf_chunk_map.proofs.PieceLemmas.{length-window}
use Rattle.sf_fragment_ops.proofs.WindowLemmas.{window-zeros, eq_zeros, zeros_eq}
use Rattle.sf_fragment_ops.proofs.comparison.are_same.Goals as goal

-- a part of a piece's bytes, where no memory holds them
zeros_of : (marked : List Marked) (from count : ℕ) → bytes_in marked ≡ replicate (length marked) 0 → from + count ≤ length marked → window from count (bytes_in marked) ≡ replicate count 0
zeros_of marked from count zeros most =
    let len = length-map marked (λ (m : Marked). m.byte) in
    window-zeros (bytes_in marked) from count (zeros ∙ ap (λ (n : ℕ). replicate n 0) (sym len)) (omega (arith, most, len))

length_of : (marked : List Marked) (from count : ℕ) → from + count ≤ length marked → length (window from count (bytes_in marked)) ≡ count
length_of marked from count most =
    length-window from count (bytes_in marked) (omega (arith, most, length-map marked (λ (m : Marked). m.byte)))

pub returns-in-Some-None : goal.returns-in-Some-None
returns-in-Some-None c =
    let left = marked_of c.args.left.now in
    let right = marked_of c.args.right.now in
    let bytes : c.part-in-Some-None.result.now ≡ window c.args.left_from c.args.count (bytes_in left) =
    c.part-in-Some-None.ensures ∙ ap (window c.args.left_from c.args.count) c.in-Some-None.ensures in
    c.are_zeros.ensures
    ∙ eq_zeros c.part-in-Some-None.result.now (window c.args.right_from c.args.count (bytes_in right)) c.args.count
    (ap (λ (xs : List ℕ). length xs) bytes ∙ length_of left c.args.left_from c.args.count c.requires.left)
    (zeros_of right c.args.right_from c.args.count c.in-Some-None.ensures' c.requires.right)
    ∙ ap (λ (xs : List ℕ). bytes_eq xs (window c.args.right_from c.args.count (bytes_in right))) bytes

pub returns-in-None-Some : goal.returns-in-None-Some
returns-in-None-Some c =
    let left = marked_of c.args.left.now in
    let right = marked_of c.args.right.now in
    let bytes : c.part-in-None-Some.result.now ≡ window c.args.right_from c.args.count (bytes_in right) =
    c.part-in-None-Some.ensures ∙ ap (window c.args.right_from c.args.count) c.in-None-Some.ensures' in
    c.are_zeros-in-None-Some.ensures
    ∙ zeros_eq c.part-in-None-Some.result.now (window c.args.left_from c.args.count (bytes_in left)) c.args.count
    (ap (λ (xs : List ℕ). length xs) bytes ∙ length_of right c.args.right_from c.args.count c.requires.right)
    (zeros_of left c.args.left_from c.args.count c.in-None-Some.ensures c.requires.left)
    ∙ ap (bytes_eq (window c.args.left_from c.args.count (bytes_in left))) bytes

pub returns-in-None-None : goal.returns-in-None-None
returns-in-None-None c =
    let left = window c.args.left_from c.args.count (bytes_in (marked_of c.args.left.now)) in
    let right = window c.args.right_from c.args.count (bytes_in (marked_of c.args.right.now)) in
    sym ((bytes_eq-Decides left right).1
    (zeros_of (marked_of c.args.left.now) c.args.left_from c.args.count c.in-None-None.ensures c.requires.left
    ∙ sym (zeros_of (marked_of c.args.right.now) c.args.right_from c.args.count c.in-None-None.ensures' c.requires.right)))
