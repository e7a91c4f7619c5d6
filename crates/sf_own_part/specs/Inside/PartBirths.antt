-- The parts of sessions whose births are asked for (our own).
use Rattle.std.specs.Prelude.{ℕ, List, [], flat_map, Option, if◌then◌else◌}
use Rattle.sf_types.specs.Inside.Births.{rising_births}
use Rattle.sf_types.specs.Table.Parts.{Savepoint, Session}
use Rattle.sf_types.specs.Calls.TransactionEnds.{after_commit}
use Rattle.sf_session_values.specs.ValueBirths.{rows_beside, locators_beside, births_of_rows}

-- A part without the working value of one row and without one locator, where these are named.
abbrev pub part_beside : Option (List ℕ) → Option (List ℕ) → Session → Session
part_beside row at p = record p { working = rows_beside row p.working; locators = locators_beside at p.locators }

-- The part after a commit, whether a transaction is open or not.
abbrev pub part_after_commit : Session → Session
part_after_commit p = if p.is_open then after_commit p else record p { savepoints = [] }

-- The births of savepoints' working values, savepoint by savepoint.
abbrev pub births_of_savepoints : List Savepoint → List ℕ
births_of_savepoints savepoints = flat_map (λ x. births_of_rows x.working) savepoints

-- The births that savepoints keep, savepoint by savepoint: those of their working values, rising, each once.
abbrev pub births_kept_by : List Savepoint → List ℕ
births_kept_by savepoints = flat_map (λ x. rising_births (births_of_rows x.working)) savepoints
