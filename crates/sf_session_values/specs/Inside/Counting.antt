-- How the births of rows' own values are counted (our own).
use Rattle.std.specs.Prelude.{◌≡◌, ℕ, ◌==◌, cond, List, [], map, flat_map, Option, Some, None}
use Rattle.std.specs.List.{count_by}
use Rattle.sf_types.specs.Values.Marks.{Value, births_in}
use Rattle.sf_types.specs.Inside.NameMaps.{NameMap, is_same_name, get, without_entry}
use Rattle.sf_chunk_map.specs.Inside.Counts.{Counts, count_at}
use Rattle.sf_session_values.specs.Inside.Sharing.{own_value}
use Rattle.sf_session_values.specs.declared.working.Working.{Working}
use Rattle.sf_session_values.specs.declared.working.Working.TheVariants as working
use Rattle.sf_session_values.specs.declared.working_rows.WorkingRow.{WorkingRow}
use Rattle.sf_session_values.specs.declared.working_rows.Uncounted.{Uncounted}
use Rattle.sf_session_values.specs.declared.working_rows.Uncounted.TheVariants as uncounted

-- How often a birth stands in a list.
abbrev pub times : ℕ → List ℕ → ℕ
times birth births = count_by (λ other. other == birth) births

-- The births of a value that is a row's own.
abbrev pub births_of_working : Working → List ℕ
births_of_working (working.Own value) = births_in value
births_of_working _ = []

-- The working values of rows.
abbrev pub workings : NameMap WorkingRow → NameMap Working
workings rows = map (λ e. (e.0, e.1.working)) rows

-- The births of rows that are counted, row by row.
abbrev pub counted_births : NameMap WorkingRow → List ℕ
counted_births rows = flat_map (λ e. e.1.births) rows

-- The births of rows' own values, row by row.
abbrev pub births_of_own_rows : NameMap Working → List ℕ
births_of_own_rows rows = flat_map (λ e. births_of_working e.1) rows

-- The rows but that of a name, or all rows where none is named.
abbrev pub workings_beside : Option (List ℕ) → NameMap Working → NameMap Working
workings_beside None rows = rows
workings_beside (Some row) rows = without_entry rows row

-- A row with the value that a change gives it, all of whose births are counted.
abbrev pub counted_change : List ℕ × Option Value → List ℕ × WorkingRow
counted_change change = (change.0, record { working = own_value change.1; births = births_of_working (own_value change.1) })

-- All births of a row's own value are counted, and none where the row is the one that isn't counted.
abbrev pub IsCounted : Uncounted → List ℕ → WorkingRow → Type 0
IsCounted uncounted.None name row = row.births ≡ births_of_working row.working
IsCounted (uncounted.Row other) name row = row.births ≡ cond (is_same_name name other) [] (births_of_working row.working)
IsCounted uncounted.Any name row = Unit {0}

-- What isn't counted, once a row isn't counted any more.
abbrev pub uncounted_with : Uncounted → List ℕ → Uncounted
uncounted_with uncounted.None name = uncounted.Row name
uncounted_with _ name = uncounted.Any

-- The numbers are those of the births that are counted.
abbrev pub AreNumbers : Counts → List ℕ → Type 0
AreNumbers counts births = (birth : ℕ) → count_at counts birth ≡ times birth births

-- What always holds of rows, of their numbers, and of what isn't counted.
pub record AreCounted (rows : NameMap WorkingRow) (counts : Counts) (unlisted : Uncounted) : Type 0 where
  pub numbers : AreNumbers counts (counted_births rows)
  pub births : (name : List ℕ) (row : WorkingRow) → get rows name ≡ Some row → IsCounted unlisted name row
