-- The births that the walk over a session's values adds at each entry (our own).
use Rattle.std.specs.Prelude.{ℕ, Bool, false, List, [], Option, if◌then◌else◌}
use Rattle.std.specs.Option.{option_map_or}
use Rattle.sf_types.specs.Inside.NameMaps.{get, is_same_name}
use Rattle.sf_types.specs.Values.Marks.{Value, births_in}
use Rattle.sf_types.specs.Table.Parts.{Locator}
use Rattle.sf_session_values.specs.Values.{ValuesView}
use Rattle.sf_session_values.specs.ValueBirths.{is_lost}

-- Whether a name is the one that is left out.
abbrev pub is_left_out : Option (List ℕ) → List ℕ → Bool
is_left_out except name = option_map_or (λ other. is_same_name other name) except false

-- The births of a row's value. An absent row has none.
abbrev pub births_of_value : Option Value → List ℕ
births_of_value value = option_map_or births_in value []

-- The births of a row, unless it is left out.
abbrev pub births_of_row : Option (List ℕ) → List ℕ × Option Value → List ℕ
births_of_row except row = if is_left_out except row.0 then [] else births_of_value row.1

-- The births of a locator, unless it is left out.
abbrev pub births_of_locator : Option (List ℕ) → List ℕ × Locator → List ℕ
births_of_locator except locator = if is_left_out except locator.0 then [] else births_in locator.1.value

-- The births of a locator, unless a rollback loses it.
abbrev pub births_kept : Option ℕ → List ℕ × Locator → List ℕ
births_kept since locator = if is_lost since locator.1 then [] else births_in locator.1.value

-- The births of the working value of a locator's row, unless the row is left out.
abbrev pub births_of_row_through : ValuesView → Option (List ℕ) → List ℕ → List ℕ
births_of_row_through v except at =
    option_map_or (λ l. if is_left_out except l.row then [] else option_map_or births_of_value (get v.working l.row) []) (get v.locators at) []
