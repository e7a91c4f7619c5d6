-- What contracts see of a seat (our own).
use Rattle.std.specs.Prelude.{ℕ, ◌+◌, Bool, true, false, List, []}
use Rattle.atomic_table.specs.Seated.{TableId}
use Rattle.sf_types.specs.declared.history.Entry.{Entry}
use Rattle.sf_turnstile.specs.declared.view.Phase.{Phase}
use Rattle.sf_turnstile.specs.declared.view.Phase.TheVariants.{Idle, Waits, Holds, Spent}
use Rattle.sf_turnstile.specs.declared.view.View.{View}

-- A seat: the turnstile that it is of, its number, its front, which is the history that it has seen, and whether it has
-- the value. Of the first seat, whose number is 0, also the number of splits so far, the number of other seats that are
-- out, and the numbers of the seats that were joined into it.
pub record Sitting : Type 0 where
  pub id : TableId
  pub number : ℕ
  pub front : List Entry
  pub has_value : Bool
  pub splits : ℕ
  pub others_out : ℕ
  pub joined_numbers : List ℕ

-- The first seat of a new turnstile.
abbrev pub first_sitting : TableId → Sitting
first_sitting id = record { id = id; number = 0; front = []; has_value = false; splits = 0; others_out = 0; joined_numbers = [] }

-- The seat of the next split: its number is the number of that split, and it has seen what the first seat has.
abbrev pub next_sitting : Sitting → Sitting
next_sitting first = record { id = first.id; number = first.splits + 1; front = first.front; has_value = false; splits = 0; others_out = 0; joined_numbers = [] }

-- A seat has the value from the look at its turn to its hand-on.
abbrev pub is_holding : Phase → Bool
is_holding Idle = false
is_holding (Waits ticket) = false
is_holding (Holds ticket) = true
is_holding Spent = false

-- What contracts see of a seat with this view.
abbrev pub sitting : TableId → View → Sitting
sitting id v = record { id = id; number = v.number; front = v.front; has_value = is_holding v.phase; splits = v.splits; others_out = v.others_out; joined_numbers = v.joined_numbers }
