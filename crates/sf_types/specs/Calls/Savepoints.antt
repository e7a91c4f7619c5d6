-- Savepoint and RollbackTo (after SAVEPOINT and ROLLBACK TO SAVEPOINT of SQL; limits, epochs and lost locators
-- are our own).
use Rattle.std.specs.Prelude.{ℕ, ◌+◌, ◌==◌, Bool, true, not, ◌&&◌, ◌||◌, nat_le, List, [], ◌∷◌, ◌++◌, map, filter, find, length, Option, is_none, unwrap_or, if◌then◌else◌}
use Rattle.std.specs.List.{list_any}
use Rattle.sf_types.specs.declared.reply.Fault.{Fault}
use Rattle.sf_types.specs.declared.reply.Fault.TheVariants as fault
use Rattle.sf_types.specs.declared.reply.Reply.{Reply}
use Rattle.sf_types.specs.declared.reply.Reply.TheVariants.{Done}
use Rattle.sf_types.specs.declared.limits.TheConstants.{SESSION_SAVEPOINTS}
use Rattle.sf_types.specs.Inside.NameMaps.{NameMap, is_same_name}
use Rattle.sf_types.specs.Values.Marks.{empty_value}
use Rattle.sf_types.specs.Table.Parts.{Locator, Savepoint, Session, Table}
use Rattle.sf_types.specs.Table.Sessions.{with_session}
use Rattle.sf_types.specs.Calls.Refusals.{first_refusal, refusal_or}

-- The savepoint of a name, where there is one.
abbrev pub savepoint_named : Session → List ℕ → Option Savepoint
savepoint_named p name = find (λ x. is_same_name name x.name) p.savepoints

-- Savepoint: TooManySavepoints where the name is new and the session has as many as it may have.
abbrev pub savepoint_refusal : Session → List ℕ → Option Fault
savepoint_refusal p name = first_refusal (
    (is_none (savepoint_named p name) && nat_le SESSION_SAVEPOINTS (length p.savepoints), fault.TooManySavepoints)
    ∷ [])

-- What Savepoint does to its session: the epoch rises by one, the savepoint of that name is taken away, and a new one stands last, with that epoch, the
-- working values and the rows that the session has locked. No transaction is opened.
abbrev pub after_savepoint : Session → List (List ℕ) → List ℕ → Session
after_savepoint p locked name = record p {
  epoch = p.epoch + 1;
  savepoints = filter (λ x. not (is_same_name name x.name)) p.savepoints
      ++ record { name = name; epoch = p.epoch + 1; working = p.working; locked = locked } ∷ [];
}

-- Savepoint, where these rows are locked by the session.
abbrev pub savepoint_call : Session → List (List ℕ) → List ℕ → Session × Reply
savepoint_call p locked name = refusal_or (savepoint_refusal p name) p (after_savepoint p locked name, Done)

-- A lost locator has an empty value.
abbrev pub lost_locator : Locator → Locator
lost_locator l = record l { value = empty_value; is_lost = true }

-- Locators, of which those that pass a test are lost.
abbrev pub with_losses : (Locator → Bool) → NameMap Locator → NameMap Locator
with_losses is_gone locators = map (λ e. (e.0, if is_gone e.1 then lost_locator e.1 else e.1)) locators

-- Whether a locator is dirty and its epoch is at least a savepoint's.
abbrev pub is_since : Savepoint → Locator → Bool
is_since x l = l.is_dirty && nat_le x.epoch l.epoch

-- The savepoints up to the one of a name, and that one. Later ones are erased.
abbrev pub savepoints_up_to : List ℕ → List Savepoint → List Savepoint
savepoints_up_to name [] = []
savepoints_up_to name (x ∷ xs) = if is_same_name name x.name then x ∷ [] else x ∷ savepoints_up_to name xs

-- What RollbackTo does to its session: the working values are the savepoint's, dirty locators since then are lost, later
-- savepoints go. The savepoint and the transaction stay.
abbrev pub after_rollback_to : Session → Savepoint → Session
after_rollback_to p x = record p {
  working = x.working;
  locators = with_losses (is_since x) p.locators;
  savepoints = savepoints_up_to x.name p.savepoints;
}

-- The locks without those of a session on rows that a savepoint doesn't name.
abbrev pub without_later_locks : NameMap ℕ → ℕ → List (List ℕ) → NameMap ℕ
without_later_locks locks s named = filter (λ e. not (e.1 == s) || list_any (is_same_name e.0) named) locks

-- The table after session s went back to a savepoint: locks taken since then are released.
abbrev pub with_rollback_to : Table → ℕ → Session → Savepoint → Table
with_rollback_to t s p x = record (with_session t s (after_rollback_to p x)) { locks = without_later_locks t.locks s x.locked }

-- A savepoint that stands for none.
abbrev pub no_savepoint : Savepoint
no_savepoint = record { name = []; epoch = 0; working = []; locked = [] }

-- RollbackTo: NoSavepoint where the session has none of that name.
abbrev pub rollback_to_refusal : Session → List ℕ → Option Fault
rollback_to_refusal p name = first_refusal ((is_none (savepoint_named p name), fault.NoSavepoint) ∷ [])

-- RollbackTo answers Done where the session has a savepoint of that name.
abbrev pub rollback_to_call : Table → ℕ → Session → List ℕ → Table × Reply
rollback_to_call t s p name =
    let x = unwrap_or (savepoint_named p name) no_savepoint in
    refusal_or (rollback_to_refusal p name) t (with_rollback_to t s p x, Done)
