-- A table on which each call is worked out, and what a call answers and leaves there (our own).
use Rattle.std.specs.Prelude.{ℕ, List, [], ◌∷◌, ◌++◌, codes}
use Rattle.sf_types.specs.declared.call.Call.{Call}
use Rattle.sf_types.specs.declared.call.Call.TheVariants as call
use Rattle.sf_types.specs.declared.history.Entry.{Entry}
use Rattle.sf_types.specs.declared.options.Choice.{Choice}
use Rattle.sf_types.specs.declared.reply.Reply.{Reply}
use Rattle.sf_types.specs.Limits.{standard_options}
use Rattle.sf_types.specs.Values.Marks.{Mark, Zero, Fresh, Stored, Marked}
use Rattle.sf_types.specs.Table.Parts.{Table}
use Rattle.sf_types.specs.Table.Sessions.{session_of}
use Rattle.sf_types.specs.Calls.LocatorCalls.{locator}
use Rattle.sf_types.specs.Calls.Steps.{step}
use Rattle.sf_laws.specs.Histories.{table_at_end, calls, flushes}

-- The object of the row a has six bytes of each mark: `a` and two bytes more of a content that was committed, a zero byte in
-- the place of its second byte, and two fresh bytes. The locator p is of it. The object of the row b, whose locator is q, has
-- two fresh bytes.
abbrev pub mixed_history : List Entry
mixed_history =
    calls (call.Insert (codes "a") ∷ call.Lock (codes "p") (codes "a") ∷ call.WriteAppend (codes "p") (codes "abcd") ∷ [])
    ++ flushes call.Commit
    ++ calls (
    call.Lock (codes "p") (codes "a")
    ∷ call.Erase (codes "p") 1 2
    ∷ call.WriteAppend (codes "p") (codes "xy")
    ∷ call.Insert (codes "b")
    ∷ call.Lock (codes "q") (codes "b")
    ∷ call.WriteAppend (codes "q") (codes "mn")
    ∷ [])

-- The table after these calls.
abbrev pub mixed : Table
mixed = table_at_end standard_options mixed_history

-- A byte with its mark.
abbrev marked : ℕ → Mark → Marked
marked byte mark = record { byte = byte; mark = mark }

-- A zero byte.
abbrev pub zero : Marked
zero = marked 0 Zero

-- A fresh byte.
abbrev pub fresh : ℕ → Marked
fresh byte = marked byte Fresh

-- A byte that a birth's content has at an index.
abbrev pub stored : ℕ → ℕ → ℕ → Marked
stored byte birth index = marked byte (Stored birth index)

-- The bytes of the first birth's content.
abbrev pub a : Marked
a = stored 97 1 0

abbrev pub c : Marked
c = stored 99 1 2

abbrev pub d : Marked
d = stored 100 1 3

-- The fresh bytes of the row a, and those of the row b.
abbrev pub x : Marked
x = fresh 120

abbrev pub y : Marked
y = fresh 121

abbrev pub m : Marked
m = fresh 109

abbrev pub n : Marked
n = fresh 110

-- What session 1 is answered to a call.
abbrev pub answer_to : Table → Call → Reply
answer_to t made = (step t 1 made).1

-- The marked bytes of a locator's value after a call of session 1.
abbrev pub bytes_after : Table → List ℕ → Call → List Marked
bytes_after t at made = (locator (session_of (step t 1 made).0 1) at).value.bytes

-- The choice of a locator's value after a call of session 1.
abbrev pub choice_after : Table → List ℕ → Call → Choice
choice_after t at made = (locator (session_of (step t 1 made).0 1) at).value.choice
