-- What rows hold after some commits (our own).
use Rattle.std.specs.Prelude.{ℕ, List, [], ◌∷◌, take, length, Option, Some, None}
use Rattle.std.specs.List.{filter_map}
use Rattle.sf_types.specs.Inside.NameMaps.{NameMap, get, with_entry}
use Rattle.sf_types.specs.Values.Marks.{Value}
use Rattle.sf_types.specs.Table.Parts.{Rows, Table}

-- A change gives a row a value or makes it absent. Without a change the row is absent.
abbrev pub value_or_absent : Option (Option Value) → Option Value
value_or_absent None = None
value_or_absent (Some change) = change

-- The later of two changes, where there is one.
abbrev pub later_change : Option (Option Value) → Option (Option Value) → Option (Option Value)
later_change earlier None = earlier
later_change earlier (Some change) = Some change

-- The change that the last of some commits to name a row makes, or none where none names it.
abbrev pub last_change : List Rows → List ℕ → Option (Option Value)
last_change [] name = None
last_change (c ∷ cs) name = later_change (get c name) (last_change cs name)

-- The number of commits.
abbrev pub commit_count : Table → ℕ
commit_count t = length t.commits

-- What a row held after the first n commits.
abbrev pub value_at : Table → List ℕ → ℕ → Option Value
value_at t name n = value_or_absent (last_change (take n t.commits) name)

-- What a row holds.
abbrev pub current_value : Table → List ℕ → Option Value
current_value t name = value_or_absent (last_change t.commits name)

-- One map over another: at each name the upper one counts.
abbrev pub overlay : Rows → Rows → Rows
overlay lower [] = lower
overlay lower (e ∷ es) = with_entry (overlay lower es) e.0 e.1

-- All commits in one map, each over those before it.
abbrev pub merged_commits : Rows → List Rows → Rows
merged_commits lower [] = lower
merged_commits lower (c ∷ cs) = merged_commits (overlay lower c) cs

-- An entry with its value, where the row is present.
abbrev pub present_entry : List ℕ × Option Value → Option (List ℕ × Value)
present_entry (name, None) = None
present_entry (name, Some value) = Some (name, value)

-- The entries of the rows that are present.
abbrev pub present_values : Rows → NameMap Value
present_values rows = filter_map present_entry rows

-- The rows that are present, in byte order of names.
abbrev pub present_rows : Table → NameMap Value
present_rows t = present_values (merged_commits [] t.commits)
