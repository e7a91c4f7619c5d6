-- True marks: what is told of a byte by its mark is so (our own).
use Rattle.std.specs.Prelude.{◌≡◌, ℕ, ◌≤◌, List, [], ◌++◌, length, flat_map, slice_get, Some, All}
use Rattle.std.specs.Option.{option_map_or}
use Rattle.sf_types.specs.Values.Marks.{Mark, Zero, Fresh, Stored, Marked, Value}
use Rattle.sf_types.specs.Table.Parts.{Content, Session, Table}
use Rattle.sf_types.specs.Space.Reach.{values_in, session_values}
use Rattle.sf_types.specs.Space.Use.{content_of}

-- Births are given out from 1 on.
pub record IsGivenOut (contents : List Content) (birth : ℕ) : Type 0 where
  pub low : 1 ≤ birth
  pub high : birth ≤ length contents

-- The bytes of a birth's content.
abbrev pub bytes_of_birth : List Content → ℕ → List ℕ
bytes_of_birth contents birth = option_map_or (λ x. x.bytes) (content_of contents birth) []

-- A stored byte stands at an index inside the content of its birth, which was given out.
pub record IsStoredAt (contents : List Content) (birth index byte : ℕ) : Type 0 where
  pub given_out : IsGivenOut contents birth
  pub stands : slice_get (bytes_of_birth contents birth) index ≡ Some byte

-- The mark of a byte is true where the byte is 0 and is marked so, or is fresh, or is stored as its mark says.
abbrev pub IsTrueMark : List Content → ℕ → Mark → Type 0
IsTrueMark contents byte Zero = byte ≡ 0
IsTrueMark contents byte Fresh = Unit {0}
IsTrueMark contents byte (Stored birth index) = IsStoredAt contents birth index byte

-- A byte whose mark is true.
abbrev pub HasTrueMark : List Content → Marked → Type 0
HasTrueMark contents m = IsTrueMark contents m.byte m.mark

-- All values of a table: those of all commits, and of each session its working values, those of its locators and those
-- of its savepoints.
abbrev pub all_values : Table → List Value
all_values t = flat_map (λ c. values_in c) t.commits ++ flat_map (λ p. session_values p) t.sessions

-- The births that a session's standing promise found.
abbrev pub found_by : Session → List ℕ
found_by p = option_map_or (λ q. q.births) p.promise []

-- All marks of a table are true, and what standing promises found was given out.
pub record HasTrueMarks (t : Table) : Type 0 where
  pub marks : All (λ v. All (HasTrueMark t.contents) v.bytes) (all_values t)
  pub promised : All (λ p. All (IsGivenOut t.contents) (found_by p)) t.sessions
