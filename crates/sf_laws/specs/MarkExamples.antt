-- What calls do to the marks of locators and to a session's transaction (our own).
use Rattle.std.specs.Prelude.{ℕ, Bool, true, false, List, [], ◌∷◌, ◌++◌, map, codes}
use Rattle.sf_types.specs.declared.call.Call.TheVariants as call
use Rattle.sf_types.specs.declared.history.Entry.{Entry}
use Rattle.sf_types.specs.Limits.{standard_options}
use Rattle.sf_types.specs.Values.Marks.{strip}
use Rattle.sf_types.specs.Table.Parts.{Locator, Session, Table}
use Rattle.sf_types.specs.Table.Sessions.{session_of}
use Rattle.sf_types.specs.Orders.Histories.{table_after}
use Rattle.sf_laws.specs.Histories.{table_at_end, calls, flushes}

-- The marks of a locator: its name, its bytes, its transaction's number, its epoch, and whether it is dirty, lost or read-only.
pub record Told : Type 0 where
  pub name : List ℕ
  pub bytes : List ℕ
  pub transaction : ℕ
  pub epoch : ℕ
  pub dirty : Bool
  pub lost : Bool
  pub read_only : Bool

abbrev told_of : List ℕ × Locator → Told
told_of (name, l) = record {
  name = name;
  bytes = strip l.value;
  transaction = l.transaction;
  epoch = l.epoch;
  dirty = l.is_dirty;
  lost = l.is_lost;
  read_only = l.is_read_only;
}

-- The row a holds `ab`, which transaction 1 wrote. Then session 1 selects it through s, sets the savepoint k, locks the row
-- through p in transaction 2, appends `c`, and selects the old commit through r.
abbrev pub open_history : List Entry
open_history =
    calls (call.Insert (codes "a") ∷ call.Lock (codes "p") (codes "a") ∷ call.WriteAppend (codes "p") (codes "ab") ∷ [])
    ++ flushes call.Commit
    ++ calls (
    call.Select (codes "s") (codes "a")
    ∷ call.Savepoint (codes "k")
    ∷ call.Lock (codes "p") (codes "a")
    ∷ call.WriteAppend (codes "p") (codes "c")
    ∷ call.SelectAsOf (codes "r") (codes "a") 1
    ∷ [])

-- The table after these calls.
abbrev pub open_table : Table
open_table = table_at_end standard_options open_history

-- The session after some more entries.
abbrev pub after : List Entry → Session
after entries = session_of (table_after open_table entries) 1

-- Its locators, after more entries.
abbrev pub locators_after : List Entry → List Told
locators_after entries = map told_of (after entries).locators

-- The three locators as they are at first.
abbrev pub p : Told
p = record { name = codes "p"; bytes = codes "abc"; transaction = 2; epoch = 1; dirty = true; lost = false; read_only = false }

abbrev pub r : Told
r = record { name = codes "r"; bytes = codes "ab"; transaction = 0; epoch = 1; dirty = false; lost = false; read_only = true }

abbrev pub s : Told
s = record { name = codes "s"; bytes = codes "ab"; transaction = 0; epoch = 0; dirty = false; lost = false; read_only = false }
