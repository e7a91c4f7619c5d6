-- Shared contents are distinct (our own).
use Rattle.std.specs.Prelude.{◌≡◌, ℕ, true, List, Some, Contains}
use Rattle.sf_types.specs.Table.Parts.{Content, Table}
use Rattle.sf_types.specs.Space.Reach.{reach}
use Rattle.sf_types.specs.Space.Use.{content_of}
use Rattle.sf_laws.specs.TrueMarks.{HasTrueMarks}

-- A birth is shared and has these bytes.
abbrev pub IsSharedWith : List Content → List ℕ → ℕ → Type 0
IsSharedWith contents bytes birth = content_of contents birth ≡ Some (record { bytes = bytes; is_shared = true })

-- No two of some births are shared with the same bytes.
abbrev pub AreDistinct : List Content → List ℕ → Type 0
AreDistinct contents births =
    (bytes : List ℕ) (b c : ℕ) → Contains births b → Contains births c
    → IsSharedWith contents bytes b → IsSharedWith contents bytes c → b ≡ c

-- Of the births in reach no two are shared with the same bytes. (That marks are true is needed to keep it so.)
pub record HasDistinctContents (t : Table) : Type 0 where
  pub true_marks : HasTrueMarks t
  pub distinct : AreDistinct t.contents (reach t)
