-- Stores in which promises are made at several floors, published beside others, refused and given up (our own).
use Rattle.std.specs.Prelude.{true, false, List, [], ◌∷◌, ◌++◌, codes}
use Rattle.sf_types.specs.declared.call.Call.TheVariants as call
use Rattle.sf_types.specs.declared.history.Entry.{Entry}
use Rattle.sf_types.specs.declared.history.Kind.TheVariants as kind
use Rattle.sf_types.specs.declared.options.Options.{Options}
use Rattle.sf_types.specs.declared.reply.Reply.{Reply}
use Rattle.sf_types.specs.Table.Parts.{Table}
use Rattle.sf_types.specs.Orders.Histories.{history_table, history_replies}
use Rattle.sf_laws.specs.Histories.{calls, flushes, promises, store_of, block}

-- Two blocks, and old versions are kept while there is room.
abbrev pub kept_while_room : Options
kept_while_room = record (store_of 2) { max = true }

-- The row a holds 512 times `A`, then 512 times `B`. So two commits stand, and no block is free while both are kept.
abbrev pub two_versions : List Entry
two_versions =
    calls (call.Insert (codes "a") ∷ call.Lock (codes "p") (codes "a") ∷ call.WriteAppend (codes "p") (block 65) ∷ [])
    ++ flushes call.Commit
    ++ calls (call.Lock (codes "p") (codes "a") ∷ call.Write (codes "p") 1 (block 66) ∷ [])
    ++ flushes call.Commit
    ++ calls (call.Free (codes "p") ∷ [])

-- The row b gets 512 times `C`. That fits once the first version is given up.
abbrev pub third_content : List Entry
third_content = two_versions ++ calls (call.Insert (codes "b") ∷ call.Lock (codes "q") (codes "b") ∷ call.WriteAppend (codes "q") (block 67) ∷ []) ++ promises call.Commit ∷ []

-- The row b gets 512 times `A` and the row c 512 times `C`. While the first version is kept its content is found, and one block is
-- wanted of none that is free; once it is given up, two are wanted of one.
abbrev pub found_while_kept : List Entry
found_while_kept =
    two_versions
    ++ calls (
    call.Insert (codes "b")
    ∷ call.Lock (codes "q") (codes "b")
    ∷ call.WriteAppend (codes "q") (block 65)
    ∷ call.Insert (codes "c")
    ∷ call.Lock (codes "r") (codes "c")
    ∷ call.WriteAppend (codes "r") (block 67)
    ∷ [])
    ++ promises call.Commit ∷ []

-- One object has `abc`, another the same, and a third one other bytes: two contents are wanted.
abbrev pub equal_cuts : List Entry
equal_cuts =
    calls (
    call.Insert (codes "a")
    ∷ call.Lock (codes "p") (codes "a")
    ∷ call.WriteAppend (codes "p") (codes "abc")
    ∷ call.Insert (codes "b")
    ∷ call.Lock (codes "q") (codes "b")
    ∷ call.WriteAppend (codes "q") (codes "abc")
    ∷ call.Insert (codes "c")
    ∷ call.Lock (codes "r") (codes "c")
    ∷ call.WriteAppend (codes "r") (codes "xyz")
    ∷ [])
    ++ promises call.Commit ∷ []

-- A promise that is given up, and the same call promised again and ended.
abbrev pub cancelled : List Entry
cancelled =
    calls (call.Insert (codes "a") ∷ call.Lock (codes "p") (codes "a") ∷ call.WriteAppend (codes "p") (codes "abc") ∷ [])
    ++ promises call.Commit
    ∷ record { token = record { session = 1; kind = kind.Cancel }; call = call.Commit }
    ∷ []

-- Three objects with equal bytes: one that shares by its own choice, one that doesn't, and one that leaves it to the store, which has
-- a zero byte and another byte behind them.
abbrev pub three_choices : List Entry
three_choices =
    calls (
    call.Insert (codes "a")
    ∷ call.Lock (codes "p") (codes "a")
    ∷ call.SetOptions (codes "p") true
    ∷ call.WriteAppend (codes "p") (codes "ab")
    ∷ call.Insert (codes "b")
    ∷ call.Lock (codes "q") (codes "b")
    ∷ call.SetOptions (codes "q") false
    ∷ call.WriteAppend (codes "q") (codes "ab")
    ∷ call.Insert (codes "c")
    ∷ call.Lock (codes "r") (codes "c")
    ∷ call.WriteAppend (codes "r") (codes "ab")
    ∷ call.Write (codes "r") 4 (codes "c")
    ∷ [])
    ++ flushes call.Commit

-- The replies to session 1 in a store of one session.
abbrev pub answers : Options → List Entry → List Reply
answers options history = history_replies options 1 history 1

-- The table there.
abbrev pub table : Options → List Entry → Table
table options history = history_table options 1 history
