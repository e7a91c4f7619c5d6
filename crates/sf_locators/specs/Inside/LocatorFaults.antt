-- The first fault of a write through a locator (our own).
use Rattle.std.specs.Prelude.{ℕ, Bool, not, ◌&&◌, ◌==◌, [], ◌∷◌, Option, Some, None}
use Rattle.sf_types.specs.declared.reply.Fault.{Fault}
use Rattle.sf_types.specs.declared.reply.Fault.TheVariants as fault
use Rattle.sf_types.specs.Table.Parts.{Locator}
use Rattle.sf_types.specs.Calls.Refusals.{first_refusal}

-- The first fault of a write through a locator that is there, in a transaction with a number, or 0 for none.
abbrev pub fault_through : Locator → ℕ → Bool → Option Fault
fault_through l number is_held = first_refusal (
    (l.is_lost, fault.Lost)
    ∷ (l.is_read_only, fault.ReadOnly)
    ∷ (not (l.transaction == 0) && not (l.transaction == number), fault.SpansTransactions)
    ∷ (not is_held, fault.RowNotLocked)
    ∷ [])

-- The first fault of a write through what was found at a name.
abbrev pub fault_of : Option Locator → ℕ → Bool → Option Fault
fault_of None number is_held = Some fault.UnknownLocator
fault_of (Some l) number is_held = fault_through l number is_held
