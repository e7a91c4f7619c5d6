-- The versions of one row, each with the number of the commit that made it (our own; after the rules of the table's versions).
use Rattle.std.specs.Prelude.{ℕ, ◌+◌, ◌-◌, ◌<◌, ◌≤◌, nat_le, length, slice_get, List, [], ◌∷◌, Option, Some, None, if◌then◌else◌}
use Rattle.std.specs.Option.{option_map, option_map_or}
use Rattle.sf_types.specs.Inside.NameMaps.{get}
use Rattle.sf_types.specs.Values.Marks.{Value}
use Rattle.sf_types.specs.Table.Parts.{Rows}
use Rattle.sf_types.specs.Table.Versions.{later_change, value_or_absent}

-- The versions of a row.
abbrev pub RowChanges : Type 0
RowChanges = List (ℕ × Option Value)

-- The numbers of versions rise, from more than the one number up to the other.
abbrev pub RiseWithin : ℕ → ℕ → RowChanges → Type 0
RiseWithin low now [] = Unit {0}
RiseWithin low now (v ∷ vs) = (low < v.0) × (v.0 ≤ now) × RiseWithin v.0 now vs

-- The change that the last version to be made by one of the first n commits makes, or none where none was.
abbrev pub change_up_to : RowChanges → ℕ → Option (Option Value)
change_up_to [] n = None
change_up_to (v ∷ vs) n = later_change (if nat_le v.0 n then Some v.1 else None) (change_up_to vs n)

-- The last version, where there is one.
abbrev pub last_version : RowChanges → Option (ℕ × Option Value)
last_version vs = slice_get vs (length vs - 1)

-- What the row holds by its last version. Without a version it is absent.
abbrev pub last_value : RowChanges → Option Value
last_value vs = value_or_absent (option_map (λ v. v.1) (last_version vs))

-- The number of the commit that made the last version.
abbrev pub last_number : RowChanges → Option ℕ
last_number vs = option_map (λ v. v.0) (last_version vs)

-- The versions that commits make of a row, where so many commits were made before them.
abbrev pub changes_of : ℕ → List Rows → List ℕ → RowChanges
changes_of before [] name = []
changes_of before (c ∷ cs) name = option_map_or (λ change. (before + 1, change) ∷ changes_of (before + 1) cs name) (get c name) (changes_of (before + 1) cs name)
