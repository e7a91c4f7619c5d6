-- Versions of rows (our own).
use Rattle.std.specs.Prelude.{◌≡◌, ℕ, ◌-◌, ◌≤◌, true, List, [], slice_index_or, Some}
use Rattle.sf_types.specs.Inside.NameMaps.{get}
use Rattle.sf_types.specs.Values.Marks.{Value}
use Rattle.sf_types.specs.Table.Parts.{Table}
use Rattle.sf_types.specs.Table.Versions.{commit_count, value_at}
use Rattle.sf_types.specs.Space.Reach.{is_kept}

-- The n-th commit gave a row this value, and that version is kept.
pub record IsKeptVersion (t : Table) (row : List ℕ) (n : ℕ) (v : Value) : Type 0 where
  pub low : 1 ≤ n
  pub high : n ≤ commit_count t
  pub given : get (slice_index_or t.commits (n - 1) []) row ≡ Some (Some v)
  pub kept : is_kept t row n ≡ true

-- A row has this value after the first n commits, where n lies from the floor to the number of commits.
pub record IsValueSinceFloor (t : Table) (row : List ℕ) (n : ℕ) (v : Value) : Type 0 where
  pub low : t.floor ≤ n
  pub high : n ≤ commit_count t
  pub is : value_at t row n ≡ Some v
