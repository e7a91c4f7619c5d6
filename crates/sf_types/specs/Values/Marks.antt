-- Marked bytes, and the values of rows (our own, after VLDB 2008).
use Rattle.std.specs.Prelude.{ℕ, Bool, true, false, List, [], map, length, filter, filter_map, Option, Some, None}
use Rattle.sf_types.specs.declared.options.Choice.{Choice}
use Rattle.sf_types.specs.declared.options.Choice.TheVariants as choice
use Rattle.sf_types.specs.Inside.Births.{rising_births}

-- The mark of a byte: it needs no content since it is zero; or it is fresh, and no content holds it yet; or it is
-- stored as the byte at an index, counted from 0, of a birth's content.
pub data Mark : Type 0 where
  Zero : Mark
  Fresh : Mark
  Stored : (birth index : ℕ) → Mark

-- A marked byte is a byte with one mark.
pub record Marked : Type 0 where
  pub byte : ℕ
  pub mark : Mark

-- A value is a list of marked bytes and a choice.
pub record Value : Type 0 where
  pub bytes : List Marked
  pub choice : Choice

-- The value that Insert makes.
abbrev pub empty_value : Value
empty_value = record { bytes = []; choice = choice.Standard }

-- A byte marked Zero is 0.
abbrev pub zero_byte : Marked
zero_byte = record { byte = 0; mark = Zero }

-- The bytes of a buffer are fresh.
abbrev pub fresh_byte : ℕ → Marked
fresh_byte b = record { byte = b; mark = Fresh }

-- Bytes of a buffer as marked bytes.
abbrev pub fresh_bytes : List ℕ → List Marked
fresh_bytes bytes = map fresh_byte bytes

-- The bytes of a list of marked bytes, without their marks.
abbrev pub bytes_in : List Marked → List ℕ
bytes_in marked = map (λ m. m.byte) marked

-- The bytes of a value, without their marks.
abbrev pub strip : Value → List ℕ
strip v = bytes_in v.bytes

-- The number of bytes of a value.
abbrev pub size_of : Value → ℕ
size_of v = length v.bytes

-- Whether a mark is that of a fresh byte.
abbrev pub is_fresh_mark : Mark → Bool
is_fresh_mark Zero = false
is_fresh_mark Fresh = true
is_fresh_mark (Stored birth index) = false

-- Whether a byte is fresh.
abbrev pub is_fresh : Marked → Bool
is_fresh m = is_fresh_mark m.mark

-- The number of fresh bytes of a value.
abbrev pub fresh_count : Value → ℕ
fresh_count v = length (filter is_fresh v.bytes)

-- The birth that a mark names, or none.
abbrev pub birth_of_mark : Mark → Option ℕ
birth_of_mark Zero = None
birth_of_mark Fresh = None
birth_of_mark (Stored birth index) = Some birth

-- The births that occur in a value, rising.
abbrev pub births_in : Value → List ℕ
births_in v = rising_births (filter_map (λ m. birth_of_mark m.mark) v.bytes)
