-- The rows that a rollback to a savepoint unlocks, entry by entry (our own).
use Rattle.std.specs.Prelude.{ℕ, List, [], ◌∷◌, Option, if◌then◌else◌}
use Rattle.std.specs.List.{list_any}
use Rattle.sf_types.specs.Inside.NameMaps.{is_same_name}
use Rattle.sf_types.specs.Values.Marks.{Value}

-- A locked row's name, unless a savepoint names the row.
abbrev pub unlocked : List (List ℕ) → List ℕ × Option Value → List (List ℕ)
unlocked named row = if list_any (is_same_name row.0) named then [] else row.0 ∷ []
