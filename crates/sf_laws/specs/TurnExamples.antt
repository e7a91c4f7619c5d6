-- Scripts of several sessions, for worked plays (our own).
use Rattle.std.specs.Prelude.{ℕ, List, [], ◌∷◌, map, codes, replicate}
use Rattle.sf_types.specs.declared.call.Call.{Call}
use Rattle.sf_types.specs.declared.call.Call.TheVariants as call
use Rattle.sf_types.specs.declared.history.Kind.TheVariants as kind
use Rattle.sf_types.specs.declared.history.Token.{Token}
use Rattle.sf_laws.specs.Histories.{block}
use Rattle.sf_types.specs.Play.Turns.{Turn, OfSession}

-- A token in short: a session's call ends.
abbrev pub call_of : ℕ → Token
call_of s = record { session = s; kind = kind.Call }

-- A session's call gets its promise.
abbrev pub promise_of : ℕ → Token
promise_of s = record { session = s; kind = kind.Promise }

-- Turns of sessions.
abbrev pub sessions_turns : List ℕ → List Turn
sessions_turns ns = map (λ n. OfSession n) ns

-- A store of one block that flushes at 512 bytes.
abbrev pub one_block_calls : List Call
one_block_calls =
    call.Insert (codes "a")
    ∷ call.Lock (codes "p") (codes "a")
    ∷ call.WriteAppend (codes "p") (block 65)
    ∷ call.WriteAppend (codes "p") (block 66)
    ∷ call.Length (codes "p")
    ∷ call.WriteAppend (codes "p") (block 65)
    ∷ call.Length (codes "p")
    ∷ call.Commit
    ∷ []

-- An object is overwritten twice while another session's locator keeps its first content.
abbrev pub overwriting_calls : List Call
overwriting_calls =
    call.Insert (codes "a")
    ∷ call.Lock (codes "p") (codes "a")
    ∷ call.WriteAppend (codes "p") (block 65)
    ∷ call.Commit
    ∷ call.Lock (codes "p") (codes "a")
    ∷ call.Write (codes "p") 1 (block 66)
    ∷ call.Commit
    ∷ call.Lock (codes "p") (codes "a")
    ∷ call.Write (codes "p") 1 (block 67)
    ∷ call.Commit
    ∷ call.Commit
    ∷ []

abbrev pub keeping_calls : List Call
keeping_calls =
    call.Select (codes "u") (codes "a")
    ∷ call.Assign (codes "v") (codes "u")
    ∷ call.Free (codes "u")
    ∷ call.Read (codes "v") 2 1
    ∷ call.Rollback
    ∷ call.Free (codes "v")
    ∷ call.Rollback
    ∷ []

-- Two sessions commit equal contents.
abbrev pub writer : List ℕ → List ℕ → List Call
writer row at = call.Insert row ∷ call.Lock at row ∷ call.WriteAppend at (codes "abc") ∷ call.Commit ∷ []

-- A row is dropped, and the store is made small.
abbrev pub shrinking_calls : List Call
shrinking_calls =
    call.Insert (codes "a")
    ∷ call.Lock (codes "p") (codes "a")
    ∷ call.WriteAppend (codes "p") (block 65)
    ∷ call.Insert (codes "b")
    ∷ call.Lock (codes "q") (codes "b")
    ∷ call.WriteAppend (codes "q") (block 66)
    ∷ call.Commit
    ∷ call.Delete (codes "a")
    ∷ call.Commit
    ∷ []

-- Retention and space.
abbrev pub retention_calls : List Call
retention_calls =
    call.Insert (codes "a")
    ∷ call.Lock (codes "p") (codes "a")
    ∷ call.WriteAppend (codes "p") (block 65)
    ∷ call.Commit
    ∷ call.Lock (codes "p") (codes "a")
    ∷ call.Write (codes "p") 1 (block 66)
    ∷ call.Commit
    ∷ call.Lock (codes "p") (codes "a")
    ∷ call.Write (codes "p") 1 (block 67)
    ∷ call.Commit
    ∷ call.SelectAsOf (codes "r") (codes "a") 1
    ∷ call.Read (codes "r") 2 1
    ∷ call.Free (codes "r")
    ∷ call.Rollback
    ∷ call.Insert (codes "b")
    ∷ call.Commit
    ∷ call.SelectAsOf (codes "r") (codes "a") 1
    ∷ call.Lock (codes "p") (codes "a")
    ∷ call.Write (codes "p") 1 (block 67)
    ∷ call.Commit
    ∷ []

-- Each session asks for rows that the other has locked.
abbrev pub locking_calls : List Call
locking_calls =
    call.Insert (codes "a") ∷ call.Commit ∷ call.Lock (codes "p") (codes "a") ∷ call.Commit ∷ []

abbrev pub busy_calls : List Call
busy_calls =
    call.Lock (codes "q") (codes "a")
    ∷ call.Insert (codes "a")
    ∷ call.Lock (codes "q") (codes "a")
    ∷ call.Insert (codes "a")
    ∷ []

-- An upload in four pieces, of which the third makes it flush.
abbrev pub upload : List ℕ → List Call
upload row =
    call.Insert row
    ∷ call.Lock (codes "p") row
    ∷ call.WriteAppend (codes "p") (replicate 255 65)
    ∷ call.WriteAppend (codes "p") (replicate 255 66)
    ∷ call.WriteAppend (codes "p") (replicate 255 67)
    ∷ call.WriteAppend (codes "p") (replicate 13 68)
    ∷ call.Commit
    ∷ []

-- Work after a savepoint is undone.
abbrev pub undone_calls : List Call
undone_calls =
    call.Insert (codes "a")
    ∷ call.Lock (codes "p") (codes "a")
    ∷ call.WriteAppend (codes "p") (codes "ab")
    ∷ call.Select (codes "q") (codes "a")
    ∷ call.Savepoint (codes "s")
    ∷ call.WriteAppend (codes "p") (codes "cd")
    ∷ call.Insert (codes "b")
    ∷ call.RollbackTo (codes "s")
    ∷ call.Read (codes "p") 1 1
    ∷ call.Read (codes "q") 9 1
    ∷ call.WriteAppend (codes "q") (codes "Z")
    ∷ call.Read (codes "q") 9 1
    ∷ call.RollbackTo (codes "t")
    ∷ call.Commit
    ∷ []

-- A lock that was taken after a savepoint is released, and another session takes it.
abbrev pub releasing_calls : List Call
releasing_calls =
    call.Insert (codes "a") ∷ call.Savepoint (codes "s") ∷ call.Insert (codes "b") ∷ call.RollbackTo (codes "s") ∷ []

abbrev pub waiting_calls : List Call
waiting_calls = call.Insert (codes "b") ∷ call.Insert (codes "b") ∷ []

-- A second content has no room even when all old versions are given up.
abbrev pub no_room_calls : List Call
no_room_calls =
    call.Insert (codes "a")
    ∷ call.Lock (codes "p") (codes "a")
    ∷ call.WriteAppend (codes "p") (block 65)
    ∷ call.Commit
    ∷ call.Insert (codes "b")
    ∷ call.Lock (codes "q") (codes "b")
    ∷ call.WriteAppend (codes "q") (block 66)
    ∷ call.Commit
    ∷ call.SelectAsOf (codes "r") (codes "a") 0
    ∷ []
