-- How a row's working value and the locator that wrote it last share one value (our own).
use Rattle.std.specs.Prelude.{◌≡◌, ℕ, Bool, false, List, map, Option, Some, None}
use Rattle.std.specs.Option.{option_map, option_map_or}
use Rattle.sf_types.specs.Inside.NameMaps.{NameMap, is_same_name, get}
use Rattle.sf_types.specs.Values.Marks.{Value}
use Rattle.sf_types.specs.Table.Parts.{Locator, Rows}
use Rattle.sf_session_values.specs.declared.working.Working.{Working}
use Rattle.sf_session_values.specs.declared.working.Working.TheVariants as working

-- The value that a row has by its working value: its own, or that of the locator that wrote it last.
abbrev pub value_by : NameMap Locator → Working → Option Value
value_by locators working.Absent = None
value_by locators (working.Own value) = Some value
value_by locators (working.Through at) = option_map (λ l. l.value) (get locators at)

-- The working values of rows, where some are their locators' values.
abbrev pub rows_by : NameMap Locator → NameMap Working → Rows
rows_by locators rows = map (λ e. (e.0, value_by locators e.1)) rows

-- A locator whose value is a row's working value is there, and belongs to the row.
pub record AreShared (locators : NameMap Locator) (rows : NameMap Working) : Type 0 where
  pub stands : (row at : List ℕ) → get rows row ≡ Some (working.Through at) → option_map (λ l. l.row) (get locators at) ≡ Some row

-- Each row's working value is its own.
pub record NoneShared (rows : NameMap Working) : Type 0 where
  pub own : (row at : List ℕ) → get rows row ≡ Some (working.Through at) → ⊥

-- The working value that is a row's own value, or its absence.
abbrev pub own_value : Option Value → Working
own_value None = working.Absent
own_value (Some value) = working.Own value

-- Whether a working value is that of a locator.
abbrev pub is_through : List ℕ → Working → Bool
is_through at (working.Through other) = is_same_name at other
is_through at _ = false

-- Whether a locator's value is the working value of its row.
abbrev pub is_row_value : NameMap Locator → NameMap Working → List ℕ → Bool
is_row_value locators rows at = option_map_or (λ l. option_map_or (is_through at) (get rows l.row) false) (get locators at) false
