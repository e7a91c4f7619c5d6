-- The atomic steps of the turnstile: what each makes of a seat's view, and what it tells its caller (our own).
use Rattle.std.specs.Prelude.{◌≡◌, ◌≢◌, ℕ, ◌+◌, ◌-◌, true, false, cond, List, [], ◌∷◌, length, Option, Some, nat_le}
use Rattle.atomic_table.specs.Table.{Me, Step}
use Rattle.sf_types.specs.declared.history.Entry.{Entry}
use Rattle.sf_turnstile.specs.declared.view.Phase.TheVariants.{Idle, Waits, Holds, Spent}
use Rattle.sf_turnstile.specs.declared.view.View.{View}
use Rattle.sf_turnstile.specs.Continuations.{IsNewer}
use Rattle.sf_turnstile.specs.Rule.{HasBothFronts}

-- A draw gives the seat the ticket that it found.
abbrev pub view_with_ticket : ℕ → View → View
view_with_ticket ticket v = record v { phase = Waits ticket; just_joined = false }

-- A look at the seat's own turn gives it the slot, and its front becomes the history.
abbrev pub view_with_value : ℕ → List Entry → View → View
view_with_value ticket history v = record v { phase = Holds ticket; front = history; just_joined = false }

-- A hand-on takes the ticket away, and the front becomes the history of the value that was given back.
abbrev pub view_handed_on : List Entry → View → View
view_handed_on history v = record v { phase = Idle; front = history; just_joined = false }

-- A split raises the first seat's two counts.
abbrev pub view_after_split : View → View
view_after_split v = record v { splits = v.splits + 1; others_out = v.others_out + 1; just_joined = false }

-- The new seat of a split has a copy of the first seat's front and no ticket.
abbrev pub next_view : View → View
next_view v = record { number = v.splits + 1; front = v.front; phase = Idle; splits = 0; others_out = 0; joined_numbers = []; just_joined = false; front_before = []; other_number = 0; other_front = [] }

-- The longer of two lists.
abbrev pub longer : {A : Type 0} → List A → List A → List A
longer xs ys = cond (nat_le (length xs) (length ys)) ys xs

-- A join leaves the first seat with the longer front. Until the first seat's next step its view also has the two fronts
-- before the join and the joined seat's number.
abbrev pub view_after_join : View → View → View
view_after_join v w = record v { front = longer v.front w.front; others_out = v.others_out - 1; joined_numbers = w.number ∷ v.joined_numbers; just_joined = true; front_before = v.front; other_number = w.number; other_front = w.front }

-- A seat that was joined is spent, and has seen nothing.
abbrev pub spent_view : View
spent_view = record { number = 0; front = []; phase = Spent; splits = 0; others_out = 0; joined_numbers = []; just_joined = false; front_before = []; other_number = 0; other_front = [] }

module _ {B : Type 0} where
  -- A draw tells the ticket.
  abbrev pub Draws : Step (Option B) → Me (Option B) View → ℕ → Me (Option B) View → Type 0
  Draws st v found w = w ≡ (view_with_ticket found v.0, v.1)

  -- A look at another seat's turn changes nothing. At its own turn the seat gets the slot, and the value in it has a newer
  -- history.
  abbrev pub Looks : (B → List Entry) → Step (Option B) → Me (Option B) View → ℕ → Me (Option B) View → Type 0
  Looks history_of st v found w =
      (v.0.phase ≡ Waits found → (b : B) × IsNewer v.0 (history_of b) × (w ≡ (view_with_value found (history_of b) v.0, (0, Some b) ∷ v.1)))
      × (v.0.phase ≢ Waits found → w ≡ v)

  -- A hand-on gives the slot back with the value that is in it.
  abbrev pub HandsOn : (B → List Entry) → Step (Option B) → Me (Option B) View → ℕ → Me (Option B) View → Type 0
  HandsOn history_of st v found w = (b : B) × (v.1 ≡ (0, Some b) ∷ []) × (w ≡ (view_handed_on (history_of b) v.0, []))

  -- A look just after a join tells what the join left, and changes nothing.
  abbrev pub Compares : Step (Option B) → Me (Option B) View → ℕ → Me (Option B) View → Type 0
  Compares st v found w = (w ≡ v) × (v.0.just_joined ≡ true → HasBothFronts v.0)
