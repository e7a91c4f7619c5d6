-- How what is said of rows may change (our own).
use Rattle.std.specs.Prelude.{◌≡◌, ℕ, IsTrue, List}
use Rattle.sf_types.specs.Inside.NameMaps.{get, has}
use Rattle.sf_types.specs.Table.Parts.{Rows}
use Rattle.sf_types.specs.Table.Versions.{value_or_absent}

-- Each row has the value that it had, or is absent as it was.
pub record KeepsValues (old new : Rows) : Type 0 where
  pub same : (q : List ℕ) → value_or_absent (get new q) ≡ value_or_absent (get old q)

-- Each row that was named still is.
pub record KeepsNames (old new : Rows) : Type 0 where
  pub named : (q : List ℕ) → IsTrue (has old q) → IsTrue (has new q)
