-- Fresh bytes of pieces add up, as the trait of units asks (our own).
use Rattle.std.proofs.Common.{◌≡◌, ◌+◌, cond, List, ◌++◌, ap, ◌∙◌, arith}
use Rattle.std.proofs.lemmas.List.Sums.{length-filter, sum_by-append}
use Rattle.sf_types.specs.Values.Marks.{Marked, is_fresh}
use Rattle.sf_chunk_map.specs.declared.parts.Piece.{Piece}
use Rattle.sf_chunk_map.specs.Pieces.{marked_of, fresh_in}

-- The fresh bytes of two lists, joined.
pub fresh-append : (xs ys : List Marked) → fresh_in (xs ++ ys) ≡ fresh_in xs + fresh_in ys
fresh-append xs ys = omega (arith, length-filter is_fresh (xs ++ ys), length-filter is_fresh xs, length-filter is_fresh ys, sum_by-append (λ m. cond (is_fresh m) 1 0) xs ys)

-- Those of a piece in two.
pub fresh_add : (whole front back : Piece) → marked_of whole ≡ marked_of front ++ marked_of back → fresh_in (marked_of whole) ≡ fresh_in (marked_of front) + fresh_in (marked_of back)
fresh_add whole front back is = ap fresh_in is ∙ fresh-append (marked_of front) (marked_of back)
