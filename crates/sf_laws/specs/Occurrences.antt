-- Where a birth occurs that is in reach (our own, after VLDB 2008).
use Rattle.std.specs.Prelude.{◌≡◌, ℕ, ◌≤◌, IsTrue, List, Some, Contains}
use Rattle.sf_types.specs.Inside.NameMaps.{get}
use Rattle.sf_types.specs.Values.Marks.{Stored, Value}
use Rattle.sf_types.specs.Table.Parts.{Locator, Promise, Savepoint, Table}
use Rattle.sf_types.specs.Table.Sessions.{has_session, session_of}
use Rattle.sf_types.specs.Table.Versions.{commit_count, value_at, current_value}

-- A byte of a value is marked as stored by a birth.
pub record IsMarkedIn (v : Value) (birth : ℕ) : Type 0 where
  pub byte : ℕ
  pub index : ℕ
  pub stands : Contains v.bytes (record { byte = byte; mark = Stored birth index })

-- Where a birth occurs in a table.
pub data OccursIn (t : Table) (birth : ℕ) : Type 0 where
  -- A row holds a value that has the birth.
  Current : (row : List ℕ) (v : Value) → current_value t row ≡ Some v → IsMarkedIn v birth → OccursIn t birth
  -- A row held a value that has the birth after the first n commits, where n lies from the floor to the number of commits.
  Since : (row : List ℕ) (n : ℕ) (v : Value) → t.floor ≤ n → n ≤ commit_count t → value_at t row n ≡ Some v → IsMarkedIn v birth → OccursIn t birth
  -- A working value of a session has the birth.
  Working : (s : ℕ) (row : List ℕ) (v : Value) → IsTrue (has_session t s) → get (session_of t s).working row ≡ Some (Some v) → IsMarkedIn v birth → OccursIn t birth
  -- The value of a session's locator has the birth.
  Located : (s : ℕ) (name : List ℕ) (l : Locator) → IsTrue (has_session t s) → get (session_of t s).locators name ≡ Some l → IsMarkedIn l.value birth → OccursIn t birth
  -- A working value that a savepoint of a session keeps has the birth.
  Saved : (s : ℕ) (x : Savepoint) (row : List ℕ) (v : Value) → IsTrue (has_session t s) → Contains (session_of t s).savepoints x → get x.working row ≡ Some (Some v) → IsMarkedIn v birth → OccursIn t birth
  -- A standing promise of a session found the birth.
  Found : (s : ℕ) (q : Promise) → IsTrue (has_session t s) → (session_of t s).promise ≡ Some q → Contains q.births birth → OccursIn t birth
