-- What a session's locators say of a write, before anything but the locators, the transaction and the row's lock is looked
-- at (the order of refusals and the limit of locators are our own).
use Rattle.std.specs.Prelude.{ℕ, Bool, not, List, [], ◌∷◌, ◌++◌, if◌then◌else◌}
use Rattle.sf_types.specs.declared.reply.Fault.{Fault}
use Rattle.sf_types.specs.declared.reply.Fault.TheVariants as fault
use Rattle.sf_types.specs.Inside.NameMaps.{NameMap, has}
use Rattle.sf_types.specs.Table.Parts.{Locator, Session, new_session}
use Rattle.sf_types.specs.Calls.LocatorCalls.{locator, locator_refusals}
use Rattle.sf_types.specs.Calls.WritingCalls.{spans_transactions}

-- A session of which nothing but its locators is known.
abbrev pub session_with : NameMap Locator → Session
session_with locators = record new_session { locators = locators }

-- The refusals of a write through one locator, up to that for want of the row's lock: the locator isn't there, is lost, may
-- only be read, or belongs to another transaction, or the session doesn't hold the lock.
abbrev pub write_refusals : Session → Bool → List ℕ → List (Bool × Fault)
write_refusals p is_held at =
    locator_refusals p (at ∷ [])
    ++ ((locator p at).is_read_only, fault.ReadOnly)
    ∷ (spans_transactions p (locator p at), fault.SpansTransactions)
    ∷ (not is_held, fault.RowNotLocked)
    ∷ []

-- The number of locators that one set under a name adds: one where the name is new.
abbrev pub locators_added : NameMap Locator → List ℕ → ℕ
locators_added locators to = if has locators to then 0 else 1
