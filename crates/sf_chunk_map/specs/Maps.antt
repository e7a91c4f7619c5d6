-- What the calls of a map make of its value (our own). Bytes are counted from 0.
use Rattle.std.specs.Prelude.{◌≡◌, ℕ, ◌+◌, ◌-◌, ◌<◌, ◌≤◌, List, ◌++◌, length, take, drop}
use Rattle.sf_types.specs.declared.limits.TheConstants.{OBJECT_BYTES}
use Rattle.sf_types.specs.declared.options.Choice.TheVariants as choice
use Rattle.sf_types.specs.Values.Marks.{Marked, Value}
use Rattle.sf_chunk_map.specs.Contents.{window}
use Rattle.sf_chunk_map.specs.declared.parts.Piece.{Piece}
use Rattle.sf_chunk_map.specs.Pieces.{marked_of}

-- A value of these bytes, whose choice is Standard.
abbrev pub standard_value : List Marked → Value
standard_value bytes = record { bytes = bytes; choice = choice.Standard }

-- A value without so many bytes from one on, and with others in their place.
abbrev pub spliced : Value → ℕ → ℕ → List Marked → Value
spliced value at remove with = record value { bytes = take at value.bytes ++ with ++ drop (at + remove) value.bytes }

-- So many bytes of a value from one on.
abbrev pub sliced : Value → ℕ → ℕ → Value
sliced value at len = record value { bytes = window at len value.bytes }

-- A value in which a part of so many bytes from one on and a second part behind it have changed places.
abbrev pub swapped : Value → ℕ → ℕ → ℕ → Value
swapped value at first second = record value {
  bytes = take at value.bytes ++ (window (at + first) second value.bytes ++ window at first value.bytes) ++ drop (at + (first + second)) value.bytes;
}

-- So many bytes lie in a value from one on.
abbrev pub LiesWithin : Value → ℕ → ℕ → Type 0
LiesWithin value at len = at + len ≤ length value.bytes

-- Where so many bytes go and others come, the value stays within the most bytes of an object.
abbrev pub StaysWithin : Value → ℕ → List Marked → Type 0
StaysWithin value remove with = length value.bytes - remove + length with ≤ OBJECT_BYTES

-- A piece holds the bytes of a value around a byte, counted from 0: so many of the piece's bytes come before it.
pub record HoldsAt (value : Value) (at : ℕ) (piece : Piece) (before : ℕ) : Type 0 where
  pub within : before < length (marked_of piece)
  pub starts : before ≤ at
  pub bytes : window (at - before) (length (marked_of piece)) value.bytes ≡ marked_of piece
