-- The births of a session's values, part by part (our own).
use Rattle.std.specs.Prelude.{ℕ, Bool, ◌&&◌, nat_le, List, map, flat_map, Option, Some, None}
use Rattle.sf_types.specs.Inside.NameMaps.{NameMap, without_entry}
use Rattle.sf_types.specs.Values.Marks.{births_in}
use Rattle.sf_types.specs.Table.Parts.{Locator, Rows}
use Rattle.sf_types.specs.Space.Reach.{values_in}

-- The rows but that of a name, or all rows where none is named.
abbrev pub rows_beside : Option (List ℕ) → Rows → Rows
rows_beside None rows = rows
rows_beside (Some row) rows = without_entry rows row

-- The locators but that of a name, or all locators where none is named.
abbrev pub locators_beside : Option (List ℕ) → NameMap Locator → NameMap Locator
locators_beside None locators = locators
locators_beside (Some at) locators = without_entry locators at

-- Whether a rollback loses a locator: it is dirty, and its epoch is at least the one to which the rollback goes back, where it
-- doesn't end the transaction.
abbrev pub is_lost : Option ℕ → Locator → Bool
is_lost None l = l.is_dirty
is_lost (Some epoch) l = l.is_dirty && nat_le epoch l.epoch

-- The births of rows' values, row by row.
abbrev pub births_of_rows : Rows → List ℕ
births_of_rows rows = flat_map births_in (values_in rows)

-- The births of locators' values, locator by locator.
abbrev pub births_of_locators : NameMap Locator → List ℕ
births_of_locators locators = flat_map births_in (map (λ e. e.1.value) locators)
