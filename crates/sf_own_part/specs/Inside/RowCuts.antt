-- The contents of a row's fresh bytes, and the choice of each (our own).
use Rattle.std.specs.Prelude.{ℕ, List, [], length, replicate, Option}
use Rattle.std.specs.Option.{option_map_or}
use Rattle.sf_types.specs.declared.options.Choice.{Choice}
use Rattle.sf_types.specs.Values.Marks.{Value}
use Rattle.sf_types.specs.Space.Cuts.{contents_of_value}

-- The contents of a row's value. An absent row has none.
abbrev pub row_contents : List ℕ × Option Value → List (List ℕ)
row_contents row = option_map_or contents_of_value row.1 []

-- The choice of the row's value, for each of its contents.
abbrev pub row_choices : List ℕ × Option Value → List Choice
row_choices row = option_map_or (λ value. replicate (length (contents_of_value value)) value.choice) row.1 []
