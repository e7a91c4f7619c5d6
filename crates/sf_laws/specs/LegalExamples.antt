-- Tables of two sessions, of which the first has a due call, a promise, or has ended (our own).
use Rattle.std.specs.Prelude.{List, [], ◌∷◌, ◌++◌, codes, replicate}
use Rattle.sf_types.specs.declared.call.Call.TheVariants as call
use Rattle.sf_types.specs.declared.history.Entry.{Entry}
use Rattle.sf_types.specs.Table.Parts.{Table}
use Rattle.sf_types.specs.Orders.Histories.{history_table}
use Rattle.sf_laws.specs.Histories.{calls, promises, store_of}

-- Session 1 has written 510 bytes into a new row a, in a store that flushes at 512.
abbrev written : List Entry
written = calls (call.Insert (codes "a") ∷ call.Lock (codes "p") (codes "a") ∷ call.WriteAppend (codes "p") (replicate 510 65) ∷ [])

-- The table after some entries of session 1.
abbrev after : List Entry → Table
after entries = history_table (record (store_of 4) { gather = 512 }) 2 entries

abbrev pub unpromised : Table
unpromised = after written

-- Its Commit is promised.
abbrev pub promised : Table
promised = after (written ++ promises call.Commit ∷ [])

-- It has ended.
abbrev pub ended : Table
ended = after (written ++ calls (call.End ∷ []))
