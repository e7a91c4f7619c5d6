-- What the store's half tells of its rows (our own).
use Rattle.std.specs.Prelude.{ℕ, not, List, map, filter, flat_map, [], ◌∷◌, Option, Some, None}
use Rattle.sf_types.specs.Inside.NameMaps.{NameMap}
use Rattle.sf_types.specs.Values.Marks.{Value, births_in}
use Rattle.sf_types.specs.Table.Parts.{Rows}
use Rattle.sf_types.specs.Table.Versions.{present_rows, present_values}
use Rattle.sf_types.specs.Space.Use.{blocks_of_births}
use Rattle.sf_types.specs.Play.Blocks.{is_among}
use Rattle.sf_types.specs.Halves.Asks.{Half}
use Rattle.sf_types.specs.Halves.Flushes.{half_reach, table_of_half}
use Rattle.sf_versions.specs.RowChanges.{RowChanges, last_value}

-- What rows hold by their last versions, None where they are absent.
abbrev pub last_entries : NameMap RowChanges → Rows
last_entries rows = map {B = List ℕ × Option Value} (λ row. (row.0, last_value row.1)) rows

-- The rows that are present by their last versions.
abbrev pub last_rows : NameMap RowChanges → NameMap Value
last_rows rows = present_values (last_entries rows)

-- The row of an entry, where it is present.
abbrev pub present_at : Option (List ℕ × Option Value) → NameMap Value
present_at None = []
present_at (Some (name, None)) = []
present_at (Some (name, Some value)) = (name, value) ∷ []

-- The births that occur in the values of some rows.
abbrev pub births_of_rows : NameMap Value → List ℕ
births_of_rows rows = flat_map (λ row. births_in row.1) rows

-- The blocks of the births in reach that occur in no row's current value.
abbrev pub half_uncommitted : Half → ℕ
half_uncommitted h = blocks_of_births h.contents (filter (λ birth. not (is_among (births_of_rows (present_rows (table_of_half h))) birth)) (half_reach h))
