-- Histories that go on from what a seat has seen (our own).
use Rattle.std.specs.Prelude.{◌≡◌, ℕ, List, [], ◌++◌, Contains}
use mathlib.Core.List.{IsPrefix}
use Rattle.sf_types.specs.declared.history.Entry.{Entry}
use Rattle.sf_types.specs.Orders.Fronts.{entries_of}
use Rattle.sf_turnstile.specs.declared.view.View.{View}

-- What a turn with this seat number may make of the history that it found: it adds entries of its own session alone.
-- Seat 0 has no session, and adds nothing.
pub record Continues (number : ℕ) (front history : List Entry) : Type 0 where
  pub added : List Entry
  pub parts : history ≡ front ++ added
  pub own : entries_of number added ≡ added
  pub first : number ≡ 0 → added ≡ []

-- A history that a seat finds at its turn begins with the seat's front. The rest has no entry of the seat's own session
-- and none of a session whose seat was joined into it.
pub record IsNewer (v : View) (history : List Entry) : Type 0 where
  pub front : IsPrefix v.front history
  pub own : entries_of v.number v.front ≡ entries_of v.number history
  pub joined : (s : ℕ) → Contains v.joined_numbers s → entries_of s v.front ≡ entries_of s history
