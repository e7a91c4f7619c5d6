-- What a tree of pieces and numbers of bytes by births keep, so that they are a map (our own).
use Rattle.std.specs.Prelude.{◌≤◌, List, length}
use Rattle.sf_types.specs.declared.limits.TheConstants.{OBJECT_BYTES}
use Rattle.sf_chunk_map.specs.declared.parts.Piece.{Piece}
use Rattle.sf_chunk_map.specs.Pieces.{marked_in}
use Rattle.sf_chunk_map.specs.Inside.Counts.{Counts, AreCounts}

-- The pieces hold no more bytes than an object may have, and the numbers are those of their bytes.
pub record IsMap (pieces : List Piece) (numbers : Counts) : Type 0 where
  pub most : length (marked_in pieces) ≤ OBJECT_BYTES
  pub counts : AreCounts numbers (marked_in pieces)
