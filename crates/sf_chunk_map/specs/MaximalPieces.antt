-- Pieces of which no two neighbours go on in one another (our own).
use Rattle.std.specs.Prelude.{◌≡◌, ◌+◌, List, [], ◌∷◌, ⊤}
use Rattle.sf_chunk_map.specs.declared.parts.Piece.{Piece}
use Rattle.sf_chunk_map.specs.declared.parts.Piece.TheVariants.{Stored, Zero, Fresh}

-- A piece goes on in the one before it: both are zeros, both are fresh, or both are parts of the same content and the second
-- begins at the index at which the first ends.
abbrev pub GoesOn : Piece → Piece → Type 0
GoesOn (Stored left) (Stored right) = (left.content ≡ right.content) × (left.from + left.len ≡ right.from)
GoesOn (Zero left) (Zero right) = ⊤
GoesOn (Fresh left) (Fresh right) = ⊤
GoesOn left right = ⊥

-- No piece goes on in the one before it.
abbrev pub AreMaximal : List Piece → Type 0
AreMaximal [] = ⊤
AreMaximal (piece ∷ []) = ⊤
AreMaximal (left ∷ right ∷ pieces) = (¬ GoesOn left right) × AreMaximal (right ∷ pieces)
