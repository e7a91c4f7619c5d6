-- Tables on which several refusals of a call hold together, and tables at the limits (our own).
use Rattle.std.specs.Prelude.{ℕ, ◌+◌, ◌/◌, ◌%◌, true, List, [], ◌∷◌, ◌++◌, map, codes}
use Rattle.std.specs.List.{range_with_len}
use Rattle.sf_types.specs.declared.call.Call.{Call}
use Rattle.sf_types.specs.declared.call.Call.TheVariants as call
use Rattle.sf_types.specs.declared.history.Entry.{Entry}
use Rattle.sf_types.specs.declared.reply.Fault.{Fault}
use Rattle.sf_types.specs.declared.reply.Reply.{Reply}
use Rattle.sf_types.specs.declared.reply.Reply.TheVariants as reply
use Rattle.sf_types.specs.Limits.{standard_options}
use Rattle.sf_types.specs.Table.Parts.{Locator, Table}
use Rattle.sf_types.specs.Table.Sessions.{session_of, with_session}
use Rattle.sf_types.specs.Calls.LocatorCalls.{no_locator}
use Rattle.sf_types.specs.Calls.Savepoints.{no_savepoint}
use Rattle.sf_types.specs.Calls.Steps.{step}
use Rattle.sf_types.specs.Orders.Histories.{history_table}
use Rattle.sf_laws.specs.Histories.{ends_in, promises_in}

-- A call of session 1 that ends, in short, and one of session 2.
abbrev one : Call → Entry
one made = ends_in 1 made

abbrev two : Call → Entry
two made = ends_in 2 made

-- Session 1 has the locators s of no transaction, p of one that has ended, r of an old commit, and the lost one l, all of the row
-- a, which holds `ab`, and holds no lock. There are three commits, of which the last is of the empty row b.
abbrev pub locators_of_each_kind : List Entry
locators_of_each_kind =
    one (call.Insert (codes "a"))
    ∷ one (call.Lock (codes "p") (codes "a"))
    ∷ one (call.WriteAppend (codes "p") (codes "ab"))
    ∷ promises_in 1 call.Commit
    ∷ one call.Commit
    ∷ one (call.Select (codes "s") (codes "a"))
    ∷ one (call.Lock (codes "p") (codes "a"))
    ∷ one call.Commit
    ∷ one (call.SelectAsOf (codes "r") (codes "a") 2)
    ∷ one (call.Lock (codes "l") (codes "a"))
    ∷ one (call.WriteAppend (codes "l") (codes "c"))
    ∷ one call.Rollback
    ∷ one (call.Insert (codes "b"))
    ∷ one call.Commit
    ∷ []

-- The table after these calls, in a store of two sessions.
abbrev pub each_kind : Table
each_kind = history_table standard_options 2 locators_of_each_kind

-- Then session 2 takes the row a away and commits that.
abbrev pub row_is_gone : Table
row_is_gone = history_table standard_options 2 (locators_of_each_kind ++ two (call.Delete (codes "a")) ∷ two call.Commit ∷ [])

-- Or session 1 takes it away, and holds its lock.
abbrev pub row_is_deleted : Table
row_is_deleted = history_table standard_options 2 (locators_of_each_kind ++ one (call.Delete (codes "a")) ∷ [])

-- Or session 1 locks it, and inserts a row c that no commit has.
abbrev pub rows_are_locked : Table
rows_are_locked = history_table standard_options 2 (locators_of_each_kind ++ one (call.Lock (codes "p") (codes "a")) ∷ one (call.Insert (codes "c")) ∷ [])

-- What a session is answered to a call.
abbrev pub answered : Table → ℕ → Call → Reply
answered t s made = (step t s made).1

-- A refusal.
abbrev pub refused : Fault → Reply
refused f = reply.Refused f

-- Three digits.
abbrev digits : ℕ → List ℕ
digits n = (48 + n / 100) ∷ (48 + n / 10 % 10) ∷ (48 + n % 10) ∷ []

-- Session 1 with so many locators, of the names 000 and so on, of the row a and in this state.
abbrev pub with_locators : ℕ → Locator → Table
with_locators count state =
    with_session each_kind 1 (record (session_of each_kind 1) { locators = map (λ n. (digits n, state)) (range_with_len 0 count) })

-- A locator of the row a, and a lost one.
abbrev pub clean : Locator
clean = record no_locator { row = codes "a" }

abbrev pub lost : Locator
lost = record no_locator { row = codes "a"; is_lost = true }

-- Session 1 with so many savepoints, of the names 000 and so on.
abbrev pub with_savepoints : ℕ → Table
with_savepoints count =
    with_session each_kind 1 (record (session_of each_kind 1) { savepoints = map (λ n. record no_savepoint { name = digits n }) (range_with_len 0 count) })
