-- Committed values (our own).
use Rattle.std.specs.Prelude.{◌≡◌, Bool, true, not}
use Rattle.std.specs.List.{list_all}
use Rattle.sf_types.specs.Space.Due.{has_fresh}
use Rattle.sf_types.specs.Table.Parts.{Rows, Table}

-- No value of some rows has a fresh byte.
abbrev pub are_stored : Rows → Bool
are_stored rows = list_all (λ e. not (has_fresh e.1)) rows

-- No committed value has a fresh byte.
abbrev pub IsAllStored : Table → Type 0
IsAllStored t = list_all are_stored t.commits ≡ true
