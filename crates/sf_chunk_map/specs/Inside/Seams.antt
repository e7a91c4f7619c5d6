-- Where two trees of pieces meet (our own).
use Rattle.std.specs.Prelude.{◌≡◌, ◌-◌, ◌≤◌, List, ◌++◌, length, take, drop}
use Rattle.sf_chunk_map.specs.declared.parts.Piece.{Piece}
use Rattle.sf_chunk_map.specs.Pieces.{marked_of, marked_in}

-- A piece holds the bytes of the last piece of a tree and of the first one of another.
pub record IsSeam (first second : List Piece) (piece : Piece) : Type 0 where
  pub first_some : 1 ≤ length first
  pub second_some : 1 ≤ length second
  pub bytes : marked_in (take (length first - 1) first) ++ marked_of piece ++ marked_in (drop 1 second) ≡ marked_in first ++ marked_in second
