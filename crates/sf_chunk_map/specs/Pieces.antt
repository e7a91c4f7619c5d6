-- The pieces of a value and what they hold (our own).
use Rattle.std.specs.Prelude.{ℕ, List, length, replicate, filter}
use Rattle.std.specs.List.{flat_map}
use Rattle.sf_types.specs.Values.Marks.{Marked, zero_byte, fresh_bytes, is_fresh}
use Rattle.sf_chunk_map.specs.Contents.{bytes_of_part}
use Rattle.sf_chunk_map.specs.declared.parts.Piece.{Piece}
use Rattle.sf_chunk_map.specs.declared.parts.Piece.TheVariants.{Stored, Zero, Fresh}

-- What a piece holds: bytes of a content, zero bytes, or fresh bytes.
abbrev pub marked_of : Piece → List Marked
marked_of (Stored part) = bytes_of_part part
marked_of (Zero len) = replicate len zero_byte
marked_of (Fresh bytes) = fresh_bytes bytes

-- What pieces hold, from front to end.
abbrev pub marked_in : List Piece → List Marked
marked_in pieces = flat_map marked_of pieces

-- The number of fresh bytes.
abbrev pub fresh_in : List Marked → ℕ
fresh_in marked = length (filter is_fresh marked)
