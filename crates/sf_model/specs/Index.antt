-- What an index of the commits has (our own).
use Rattle.std.specs.Prelude.{◌≡◌, ℕ, List}
use Rattle.sf_types.specs.Inside.NameMaps.{get}
use Rattle.sf_types.specs.Table.Parts.{Rows}
use Rattle.sf_types.specs.Table.Versions.{value_or_absent, last_change}

-- At each name the index has what the row holds after these commits.
pub record HoldsCurrent (index : Rows) (commits : List Rows) : Type 0 where
  pub same : (q : List ℕ) → value_or_absent (get index q) ≡ value_or_absent (last_change commits q)
