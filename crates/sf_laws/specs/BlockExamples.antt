-- Blocks that stand in each part of a space, written out (our own).
use Rattle.std.specs.Prelude.{ℕ, List, [], ◌∷◌, ◌++◌, codes, replicate}
use Rattle.sf_types.specs.declared.call.Call.TheVariants as call
use Rattle.sf_types.specs.Table.Parts.{Table, opening_table}
use Rattle.sf_types.specs.Space.Placings.{Placed}
use Rattle.sf_types.specs.Orders.Histories.{history_table}
use Rattle.sf_types.specs.Play.Blocks.{Space}
use Rattle.sf_laws.specs.Histories.{calls, flushes, store_of, block}

-- A birth at some blocks.
abbrev pub at : ℕ → List ℕ → Placed
at birth blocks = record { birth = birth; blocks = blocks }

-- Three births whose places begin in another order than that of the births; two blocks are free, three are parked, and session 1
-- has collected three.
abbrev pub spread : Space
spread = record {
  places = at 1 (3 ∷ []) ∷ at 2 (1 ∷ 0 ∷ []) ∷ at 3 (2 ∷ []) ∷ [];
  parked = 8 ∷ 6 ∷ 7 ∷ [];
  free = 4 ∷ 9 ∷ [];
  collected = (12 ∷ 5 ∷ 10 ∷ []) ∷ [] ∷ [];
}

-- A table in which nothing is reached, and one to which a content of 600 bytes was given out that a row holds.
abbrev pub nothing : Table
nothing = opening_table (store_of 13) 2

abbrev pub one_content : Table
one_content = history_table (store_of 13) 2 (
    calls (call.Insert (codes "a") ∷ call.Lock (codes "p") (codes "a") ∷ call.WriteAppend (codes "p") (replicate 600 65) ∷ [])
    ++ flushes call.Commit)

-- What is reached through a savepoint alone: 512 bytes were flushed into a new row, saved, and cut off again.
abbrev pub saved_content : Table
saved_content = history_table (record (store_of 2) { gather = 512 }) 1 (
    calls (call.Insert (codes "a") ∷ call.Lock (codes "p") (codes "a") ∷ [])
    ++ flushes (call.WriteAppend (codes "p") (block 65))
    ++ calls (call.Savepoint (codes "s") ∷ call.Trim (codes "p") 0 ∷ []))
