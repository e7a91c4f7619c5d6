-- What a seat is between calls (our own).
use Rattle.std.specs.Prelude.{◌≡◌, ℕ, List, [], ◌∷◌, Option, None}
use Rattle.sf_turnstile.specs.declared.view.Phase.{Phase}
use Rattle.sf_turnstile.specs.declared.view.Phase.TheVariants.{Idle, Waits, Holds, Spent}

-- Between calls a seat is idle and holds no slot, or has the value and holds its slot, which it left empty.
abbrev pub InPhase : {B : Type 0} → Phase → List (ℕ × Option B) → Type 0
InPhase Idle slots = slots ≡ []
InPhase (Waits ticket) slots = ⊥
InPhase {B} (Holds ticket) slots = slots ≡ (0, None) ∷ []
InPhase Spent slots = ⊥
