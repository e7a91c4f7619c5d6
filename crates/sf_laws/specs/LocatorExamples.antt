-- Histories about locators and savepoints (our own).
use Rattle.std.specs.Prelude.{List, [], ◌∷◌, ◌++◌, codes}
use Rattle.sf_types.specs.declared.call.Call.TheVariants as call
use Rattle.sf_types.specs.declared.history.Entry.{Entry}
use Rattle.sf_laws.specs.Histories.{calls, flushes}

-- A locator of a locked row, one of an earlier transaction, and one of none.
abbrev pub across_transactions : List Entry
across_transactions = calls (
    call.Insert (codes "a")
    ∷ call.Commit
    ∷ call.Select (codes "q") (codes "a")
    ∷ call.Lock (codes "p") (codes "a")
    ∷ call.Commit
    ∷ call.WriteAppend (codes "p") (codes "x")
    ∷ call.WriteAppend (codes "q") (codes "x")
    ∷ call.Lock (codes "r") (codes "a")
    ∷ call.WriteAppend (codes "q") (codes "x")
    ∷ call.Length (codes "q")
    ∷ [])

-- Two locators of one row, of which one is a copy of the other.
abbrev pub assigned_history : List Entry
assigned_history = calls (
    call.Insert (codes "a")
    ∷ call.Lock (codes "p") (codes "a")
    ∷ call.WriteAppend (codes "p") (codes "ab")
    ∷ call.Assign (codes "q") (codes "p")
    ∷ call.Write (codes "p") 1 (codes "X")
    ∷ call.Read (codes "q") 2 1
    ∷ call.Read (codes "p") 2 1
    ∷ call.Write (codes "q") 2 (codes "Y")
    ∷ call.Read (codes "q") 2 1
    ∷ call.Read (codes "p") 2 1
    ∷ [])

-- A dirty locator and a clean one at a rollback.
abbrev pub rolled_back_history : List Entry
rolled_back_history = calls (
    call.Insert (codes "a")
    ∷ call.Commit
    ∷ call.Select (codes "q") (codes "a")
    ∷ call.Lock (codes "p") (codes "a")
    ∷ call.WriteAppend (codes "p") (codes "z")
    ∷ call.Rollback
    ∷ call.Read (codes "p") 1 1
    ∷ call.Length (codes "q")
    ∷ call.Free (codes "p")
    ∷ [])

-- A part of one row's value is copied into another row.
abbrev pub copies_history : List Entry
copies_history =
    calls (
    call.Insert (codes "a")
    ∷ call.Insert (codes "b")
    ∷ call.Lock (codes "q") (codes "b")
    ∷ call.WriteAppend (codes "q") (codes "abcdef")
    ∷ [])
    ++ flushes call.Commit
    ++ calls (
    call.Lock (codes "p") (codes "a")
    ∷ call.Select (codes "q") (codes "b")
    ∷ call.Copy (codes "p") (codes "q") 100 1 3
    ∷ call.Read (codes "p") 9 1
    ∷ call.Copy (codes "p") (codes "q") 1 1 7
    ∷ call.Copy (codes "p") (codes "q") 1 67108865 1
    ∷ call.Copy (codes "p") (codes "q") 0 1 1
    ∷ call.Commit
    ∷ call.End
    ∷ [])

-- Work on two rows after a savepoint is undone. The row b was locked after it, and nothing was written to it.
abbrev pub savepoint_history : List Entry
savepoint_history =
    calls (
    call.Insert (codes "a")
    ∷ call.Insert (codes "b")
    ∷ call.Lock (codes "p") (codes "a")
    ∷ call.WriteAppend (codes "p") (codes "ab")
    ∷ [])
    ++ flushes call.Commit
    ++ calls (
    call.Lock (codes "p") (codes "a")
    ∷ call.Savepoint (codes "s")
    ∷ call.WriteAppend (codes "p") (codes "cd")
    ∷ call.Assign (codes "r") (codes "p")
    ∷ call.Lock (codes "q") (codes "b")
    ∷ call.Savepoint (codes "later")
    ∷ call.RollbackTo (codes "s")
    ∷ call.Read (codes "p") 9 1
    ∷ call.Length (codes "r")
    ∷ call.WriteAppend (codes "q") (codes "x")
    ∷ call.RollbackTo (codes "later")
    ∷ call.Lock (codes "t") (codes "a")
    ∷ call.Read (codes "t") 9 1
    ∷ call.RollbackTo (codes "s")
    ∷ call.Commit
    ∷ call.RollbackTo (codes "s")
    ∷ [])
