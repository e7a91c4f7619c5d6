-- The last of the pieces that are joined (our own).
use Rattle.std.specs.Prelude.{◌≤◌, List, [], ◌∷◌, ◌++◌, length}
use Rattle.sf_chunk_map.specs.declared.parts.Piece.{Piece}
use Rattle.sf_chunk_map.specs.declared.parts.Piece.TheVariants as piece
use Rattle.sf_chunk_map.specs.declared.maximal.LastPiece.{LastPiece}
use Rattle.sf_chunk_map.specs.declared.maximal.LastPiece.TheVariants as last
use Rattle.sf_chunk_map.specs.MaximalPieces.{AreMaximal}
use Rattle.sf_chunk_map.specs.Pieces.{marked_of}

-- The piece that is so far the last one.
abbrev pub piece_so_far : LastPiece → Piece
piece_so_far (last.Stored part) = piece.Stored part
piece_so_far (last.Zero part) = piece.Zero part
piece_so_far (last.Fresh bytes) = piece.Fresh bytes.items

-- Pieces and a last one that may go on: it has a byte, and no two neighbours go on in one another.
pub record AreJoined (pieces : List Piece) (last : Piece) : Type 0 where
  pub some : 1 ≤ length (marked_of last)
  pub maximal : AreMaximal (pieces ++ last ∷ [])
