-- Histories about space (our own).
use Rattle.std.specs.Prelude.{ℕ, true, false, List, [], ◌∷◌, ◌++◌, codes}
use Rattle.sf_types.specs.declared.call.Call.{Call}
use Rattle.sf_types.specs.declared.call.Call.TheVariants as call
use Rattle.sf_types.specs.declared.history.Entry.{Entry}
use Rattle.sf_types.specs.declared.options.Options.{Options}
use Rattle.sf_laws.specs.Histories.{ends_in, promises_in, calls, flushes, promises, store_of, block}

-- A store of one block that flushes at 512 fresh bytes.
abbrev pub one_block : Options
one_block = record (store_of 1) { gather = 512 }

-- A store of one block has no room for a second content, and finds the first one again.
abbrev pub one_block_history : List Entry
one_block_history =
    calls (call.Insert (codes "a") ∷ call.Lock (codes "p") (codes "a") ∷ [])
    ++ flushes (call.WriteAppend (codes "p") (block 65))
    ++ promises (call.WriteAppend (codes "p") (block 66)) ∷ []
    ++ calls (call.Length (codes "p") ∷ [])
    ++ flushes (call.WriteAppend (codes "p") (block 65))
    ++ calls (call.Length (codes "p") ∷ call.Commit ∷ call.End ∷ [])

-- A row whose only object is overwritten by 512 other bytes.
abbrev pub overwritten_by : ℕ → List Call
overwritten_by b = call.Lock (codes "p") (codes "a") ∷ call.Write (codes "p") 1 (block b) ∷ []

-- A row with an object of 512 bytes.
abbrev pub first_object : List Call
first_object =
    call.Insert (codes "a") ∷ call.Lock (codes "p") (codes "a") ∷ call.WriteAppend (codes "p") (block 65) ∷ []

-- Two blocks, and one old version is kept.
abbrev pub two_blocks_kept : Options
two_blocks_kept = record (store_of 2) { retention = 1 }

-- A third content doesn't fit while the first one is the old version of the row. A locator reads it. When another
-- commit has raised the floor, the first one is too old, and the third fits.
abbrev pub retention_history : List Entry
retention_history =
    calls first_object ++ flushes call.Commit
    ++ calls (overwritten_by 66) ++ flushes call.Commit
    ++ calls (overwritten_by 67) ++ promises call.Commit ∷ []
    ++ calls (
    call.SelectAsOf (codes "r") (codes "a") 1
    ∷ call.Read (codes "r") 2 1
    ∷ call.Free (codes "r")
    ∷ call.Rollback
    ∷ call.Insert (codes "b")
    ∷ call.Commit
    ∷ call.SelectAsOf (codes "r") (codes "a") 1
    ∷ [])
    ++ calls (overwritten_by 67) ++ flushes call.Commit
    ++ calls (call.End ∷ [])

-- Two blocks, and old versions are kept while there is room.
abbrev pub two_blocks_max : Options
two_blocks_max = record (store_of 2) { max = true }

-- Three contents one after another, and a look at the first two.
abbrev pub max_history : List Entry
max_history =
    calls first_object ++ flushes call.Commit
    ++ calls (overwritten_by 66) ++ flushes call.Commit
    ++ calls (overwritten_by 67) ++ flushes call.Commit
    ++ calls (
    call.SelectAsOf (codes "r") (codes "a") 1
    ∷ call.SelectAsOf (codes "r") (codes "a") 2
    ∷ call.Read (codes "r") 2 1
    ∷ call.Free (codes "r")
    ∷ call.End
    ∷ [])

-- An object that is kept apart, and two that share.
abbrev pub apart_history : List Entry
apart_history =
    calls (
    call.Insert (codes "a")
    ∷ call.Lock (codes "p") (codes "a")
    ∷ call.SetOptions (codes "p") false
    ∷ call.WriteAppend (codes "p") (codes "abc")
    ∷ call.Insert (codes "b")
    ∷ call.Lock (codes "q") (codes "b")
    ∷ call.WriteAppend (codes "q") (codes "abc")
    ∷ [])
    ++ flushes call.Commit
    ++ calls (
    call.Insert (codes "c") ∷ call.Lock (codes "r") (codes "c") ∷ call.WriteAppend (codes "r") (codes "abc") ∷ [])
    ++ flushes call.Commit
    ++ calls (call.End ∷ [])

-- One block in a store that shares nothing by itself, and two objects that share by their own choice.
abbrev pub one_block_apart : Options
one_block_apart = record (store_of 1) { dedup = false }

-- Both objects get the same bytes.
abbrev pub shared_history : List Entry
shared_history =
    calls (
    call.Insert (codes "a")
    ∷ call.Lock (codes "p") (codes "a")
    ∷ call.SetOptions (codes "p") true
    ∷ call.WriteAppend (codes "p") (codes "abc")
    ∷ call.Insert (codes "b")
    ∷ call.Lock (codes "q") (codes "b")
    ∷ call.SetOptions (codes "q") true
    ∷ call.WriteAppend (codes "q") (codes "abc")
    ∷ [])
    ++ flushes call.Commit
    ++ calls (call.End ∷ [])

-- Two sessions write equal bytes into rows of their own, and both ask for space before either publishes.
abbrev pub two_writers : List Entry
two_writers =
    ends_in 1 (call.Insert (codes "a"))
    ∷ ends_in 1 (call.Lock (codes "p") (codes "a"))
    ∷ ends_in 2 (call.Insert (codes "b"))
    ∷ ends_in 2 (call.Lock (codes "q") (codes "b"))
    ∷ ends_in 1 (call.WriteAppend (codes "p") (codes "abc"))
    ∷ promises_in 1 call.Commit
    ∷ ends_in 2 (call.WriteAppend (codes "q") (codes "abc"))
    ∷ promises_in 2 call.Commit
    ∷ []

-- Where there are two blocks, both promises are granted, and the second publication finds the first one's content.
abbrev pub both_promised : List Entry
both_promised =
    two_writers ++ ends_in 1 call.Commit ∷ ends_in 2 call.Commit ∷ ends_in 1 call.End ∷ ends_in 2 call.End ∷ []

-- Where there is one, the second promise is refused, which ends its call.
abbrev pub one_promised : List Entry
one_promised = two_writers ++ ends_in 2 call.End ∷ ends_in 1 call.Commit ∷ ends_in 1 call.End ∷ []
