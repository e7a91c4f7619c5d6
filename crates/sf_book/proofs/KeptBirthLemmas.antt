-- What holds of the births of a session's own part holds of those that it keeps after an event.
use Rattle.std.proofs.Common.{◌≡◌, ℕ, Bool, true, false, cond, List, [], ◌∷◌, Option, Some, None, refl}
use Rattle.std.specs.Prelude.{flat_map, unwrap_or, is_some, is_none}
use Rattle.std.specs.List.{AllByRecursion as Each}
use Rattle.std.specs.Option.{option_map_or}
use Rattle.sf_types.specs.declared.call.Call.{Call}
use Rattle.sf_types.specs.declared.call.Call.TheVariants as call
use Rattle.sf_types.specs.declared.reply.Fault.{Fault}
use Rattle.sf_types.specs.declared.reply.Fault.TheVariants as fault
use Rattle.sf_types.specs.Inside.NameMaps.{NameMap, is_same_name, get, without_entry}
use Rattle.sf_types.specs.Values.Marks.{Marked, Value, births_in, empty_value}
use Rattle.sf_types.specs.Table.Parts.{Locator, Rows, Savepoint, Session}
use Rattle.sf_types.specs.Table.Sessions.{lacks_room}
use Rattle.sf_types.specs.Calls.WritingCalls.{written_name, result_of}
use Rattle.sf_types.specs.Calls.RowCalls.{after_insert, after_delete, after_lock, after_select}
use Rattle.sf_types.specs.Calls.Savepoints.{savepoint_named, no_savepoint, lost_locator, with_losses, is_since, after_rollback_to}
use Rattle.sf_types.specs.Calls.TransactionEnds.{after_commit, after_rollback}
use Rattle.sf_types.specs.Space.Reach.{session_births, values_in}
use Rattle.sf_types.specs.Halves.Own.{Own, held_value, is_event, own_row}
use Rattle.sf_types.specs.Halves.Asks.{Request, request_by_working, request_of, kept_births, births_beside_locator}
use Rattle.sf_types.specs.Halves.Asks as rule
use Rattle.sf_laws.proofs.EachLemmas.{each_weaker, each-map, each-flat_map, each_found}
use Rattle.sf_laws.proofs.EntryLemmas.{each-put, each-without, each_get}
use Rattle.sf_laws.proofs.HeldLemmas.{OfOption, OfRows, OfSession}
use Rattle.sf_laws.proofs.HeldStepLemmas.{of_unwrapped, of_committed, of_result, each-up_to}
use Rattle.sf_laws.proofs.ReachLemmas.{OfBirth, unstored_birth, each-births_in, each-values_in, each-session_births}
use Rattle.sf_store_half.specs.HalfMoves.{flushed_rows}

lost_holds : (M : Marked → Type 0) (b : Bool) (l : Locator) → Each M l.value.bytes → Each M (cond b (lost_locator l) l).value.bytes
lost_holds M true l is = tt
lost_holds M false l is = is

of_losses : (M : Marked → Type 0) (is_gone : Locator → Bool) (locators : NameMap Locator) → Each (λ e. Each M e.1.value.bytes) locators → Each (λ e. Each M e.1.value.bytes) (with_losses is_gone locators)
of_losses M is_gone locators all =
    each-map (λ e. Each M e.1.value.bytes) (λ e. (e.0, cond (is_gone e.1) (lost_locator e.1) e.1)) locators
    (each_weaker (λ e. Each M e.1.value.bytes) (λ e. Each M (cond (is_gone e.1) (lost_locator e.1) e.1).value.bytes) locators (λ e is. lost_holds M (is_gone e.1) e.1 is) all)

-- the births of a session without one locator
beside_locator : (P : ℕ → Type 0) (o : Own) (at : List ℕ) → OfSession (OfBirth P) o.part → Each P (births_beside_locator o at)
beside_locator P o at own = each-session_births P (record o.part { locators = without_entry o.part.locators at }) (record {
  working = own.working;
  locators = each-without (λ e. Each (OfBirth P) e.1.value.bytes) o.part.locators at own.locators;
  savepoints = own.savepoints;
})

-- a locator that has what a row's working value has
put_locator : (P : ℕ → Type 0) (p : Session) (row : List ℕ) (of_value : Option Value → List ℕ) (else_births : List ℕ) → OfSession (OfBirth P) p → Each P else_births
    → ((value : Option Value) → Each (OfBirth P) (unwrap_or value empty_value).bytes → Each P (of_value value)) → Each P (option_map_or of_value (get p.working row) else_births)
put_locator P p row of_value else_births own rest each = go (get p.working row) refl
  where
    go : (w : Option (Option Value)) → get p.working row ≡ w → Each P (option_map_or of_value w else_births)
    go None is = rest
    go (Some value) is = each value (of_unwrapped (OfBirth P) value (each_get (λ e. OfOption (OfBirth P) e.1) p.working row value own.working is))

of_lock : (P : ℕ → Type 0) (p : Session) (to row : List ℕ) (v : Value) → OfSession (OfBirth P) p → Each (OfBirth P) v.bytes → Each P (session_births (after_lock p to row v))
of_lock P p to row v own is = each-session_births P (after_lock p to row v) (record {
  working = own.working;
  locators = each-put (λ e. Each (OfBirth P) e.1.value.bytes) p.locators to _ is own.locators;
  savepoints = own.savepoints;
})

of_select : (P : ℕ → Type 0) (p : Session) (to row : List ℕ) (v : Value) → OfSession (OfBirth P) p → Each (OfBirth P) v.bytes → Each P (session_births (after_select p to row v))
of_select P p to row v own is = each-session_births P (after_select p to row v) (record {
  working = own.working;
  locators = each-put (λ e. Each (OfBirth P) e.1.value.bytes) p.locators to _ is own.locators;
  savepoints = own.savepoints;
})

-- a session that goes back to a savepoint
of_gone_back : (P : ℕ → Type 0) (p : Session) (x : Savepoint) → OfSession (OfBirth P) p → OfRows (OfBirth P) x.working → Each P (session_births (after_rollback_to p x))
of_gone_back P p x own rows = each-session_births P (after_rollback_to p x) (record {
  working = rows;
  locators = of_losses (OfBirth P) (is_since x) p.locators own.locators;
  savepoints = each-up_to (λ y. OfRows (OfBirth P) y.working) x.name p.savepoints own.savepoints;
})

gone_back : (P : ℕ → Type 0) (p : Session) (name : List ℕ) → OfSession (OfBirth P) p → Each P (session_births (after_rollback_to p (unwrap_or (savepoint_named p name) no_savepoint)))
gone_back P p name own = go (savepoint_named p name) refl
  where
    go : (x : Option Savepoint) → savepoint_named p name ≡ x → Each P (session_births (after_rollback_to p (unwrap_or x no_savepoint)))
    go None is = of_gone_back P p no_savepoint own tt
    go (Some x) is = of_gone_back P p x own (each_found (λ y. OfRows (OfBirth P) y.working) (λ y. is_same_name name y.name) p.savepoints x is own.savepoints).0

of_commit : (P : ℕ → Type 0) (p : Session) (is_open : Bool) → OfSession (OfBirth P) p → Each P (session_births (cond is_open (after_commit p) (record p { savepoints = [] })))
of_commit P p true own = each-session_births P (after_commit p) (of_committed (OfBirth P) p own)
of_commit P p false own = each-session_births P (record p { savepoints = [] }) (record { working = own.working; locators = own.locators; savepoints = tt })

pub each_kept : (P : ℕ → Type 0) (o : Own) (c : Call) → OfSession (OfBirth P) o.part → Each P (kept_births o c)
each_kept P o (call.Insert row) own = each-session_births P (after_insert o.part row) (record {
  working = each-put (λ e. OfOption (OfBirth P) e.1) o.part.working row (Some empty_value) tt own.working;
  locators = own.locators;
  savepoints = own.savepoints;
})
each_kept P o (call.Delete row) own = each-session_births P (after_delete o.part row) (record {
  working = each-put (λ e. OfOption (OfBirth P) e.1) o.part.working row None tt own.working;
  locators = own.locators;
  savepoints = own.savepoints;
})
each_kept P o (call.Lock to row) own =
    put_locator P o.part row (λ value. session_births (after_lock o.part to row (unwrap_or value empty_value))) (births_beside_locator o to) own (beside_locator P o to own)
    (λ value is. of_lock P o.part to row (unwrap_or value empty_value) own is)
each_kept P o (call.Select to row) own =
    put_locator P o.part row (λ value. session_births (after_select o.part to row (unwrap_or value empty_value))) (births_beside_locator o to) own (beside_locator P o to own)
    (λ value is. of_select P o.part to row (unwrap_or value empty_value) own is)
each_kept P o (call.SelectAsOf to row n) own = beside_locator P o to own
each_kept P o (call.RollbackTo name) own = gone_back P o.part name own
each_kept P o call.Commit own = of_commit P o.part o.part.is_open own
each_kept P o call.Rollback own = each-session_births P (after_rollback o.part) (record { working = tt; locators = of_losses (OfBirth P) (λ l. l.is_dirty) o.part.locators own.locators; savepoints = tt })
each_kept P o call.End own = tt
each_kept P o c own = beside_written (written_name c)
  where
    beside_written : (x : Option (List ℕ)) → Each P (option_map_or {U = List ℕ} (λ at. session_births (record o.part { working = without_entry o.part.working (own_row o at); locators = without_entry o.part.locators at })) x [])
    beside_written None = tt
    beside_written (Some at) = each-session_births P (record o.part { working = without_entry o.part.working (own_row o at); locators = without_entry o.part.locators at }) (record {
      working = each-without (λ e. OfOption (OfBirth P) e.1) o.part.working (own_row o at) own.working;
      locators = each-without (λ e. Each (OfBirth P) e.1.value.bytes) o.part.locators at own.locators;
      savepoints = own.savepoints;
    })

-- the births that an event brings to the store
each_in_rows : (P : ℕ → Type 0) (rows : Rows) → OfRows (OfBirth P) rows → Each P (flat_map births_in (values_in rows))
each_in_rows P rows all = each-flat_map P births_in (values_in rows) (each-values_in (λ v. Each P (births_in v)) (OfBirth P) (each-births_in P) rows all)

by_working : (P : ℕ → Type 0) (w : Option (Option Value)) (refused : Option Value → Bool) (f : Fault) → Each P (flat_map births_in (values_in (flushed_rows (request_by_working w refused f))))
by_working P None refused f = tt
by_working P (Some value) refused f =
    elim (refused value) as (λ b. Each P (flat_map births_in (values_in (flushed_rows (cond b (rule.Known f) rule.Working))))) [
      | true ↦ tt
      | false ↦ tt
    ]

either_request : (P : ℕ → Type 0) (b : Bool) (f : Fault) (request : Request) → Each P (flat_map births_in (values_in (flushed_rows request)))
    → Each P (flat_map births_in (values_in (flushed_rows (cond b (rule.Known f) request))))
either_request P true f request all = tt
either_request P false f request all = all

pub each_brought : (P : ℕ → Type 0) (o : Own) (c : Call) → OfSession (OfBirth P) o.part → is_event c ≡ true → Each P (flat_map births_in (values_in (flushed_rows (request_of o c))))
each_brought P o (call.Insert row) own event = by_working P (get o.part.working row) is_some fault.Duplicate
each_brought P o (call.Delete row) own event = by_working P (get o.part.working row) is_none fault.NoSuchRow
each_brought P o (call.Lock to row) own event =
    either_request P (lacks_room o.part to) fault.TooManyLocators (request_by_working (get o.part.working row) is_none fault.NoSuchRow) (by_working P (get o.part.working row) is_none fault.NoSuchRow)
each_brought P o (call.Select to row) own event =
    either_request P (lacks_room o.part to) fault.TooManyLocators (request_by_working (get o.part.working row) is_none fault.NoSuchRow) (by_working P (get o.part.working row) is_none fault.NoSuchRow)
each_brought P o (call.SelectAsOf to row n) own event = either_request P (lacks_room o.part to) fault.TooManyLocators rule.Current tt
each_brought P o (call.RollbackTo name) own event = either_request P (is_none (savepoint_named o.part name)) fault.NoSavepoint (request_of_unlock o name) tt
  where
    request_of_unlock : Own → List ℕ → Request
    request_of_unlock o name = rule.Unlock (rule.rows_to_unlock o name)
each_brought P o call.Commit own event = each_in_rows P o.part.working own.working
each_brought P o call.Rollback own event = tt
each_brought P o call.End own event = tt
each_brought P o c own event = absurd cc

-- the births that any call brings, where each locked row's value is known
pub each_flushed : (P : ℕ → Type 0) (o : Own) (c : Call) → OfSession (OfBirth P) o.part → ((row : List ℕ) → OfOption (OfBirth P) (held_value o row)) → Each P (flat_map births_in (values_in (flushed_rows (request_of o c))))
each_flushed P o (call.Insert row) own held = each_brought P o (call.Insert row) own refl
each_flushed P o (call.Delete row) own held = each_brought P o (call.Delete row) own refl
each_flushed P o (call.Lock to row) own held = each_brought P o (call.Lock to row) own refl
each_flushed P o (call.Select to row) own held = each_brought P o (call.Select to row) own refl
each_flushed P o (call.SelectAsOf to row n) own held = each_brought P o (call.SelectAsOf to row n) own refl
each_flushed P o (call.RollbackTo name) own held = each_brought P o (call.RollbackTo name) own refl
each_flushed P o call.Commit own held = each_brought P o call.Commit own refl
each_flushed P o call.Rollback own held = each_brought P o call.Rollback own refl
each_flushed P o call.End own held = each_brought P o call.End own refl
each_flushed P o c own held = of_written (written_name c)
  where
    of_written : (x : Option (List ℕ)) → Each P (flat_map births_in (values_in (flushed_rows (option_map_or {U = Request} (λ at. rule.Settles (result_of o.part (held_value o (own_row o at)) at c)) x rule.Working))))
    of_written None = tt
    of_written (Some at) =
        let value = result_of o.part (held_value o (own_row o at)) at c in
        each_in_rows P (([], Some value) ∷ []) (of_result (OfBirth P) (unstored_birth P) o.part (held_value o (own_row o at)) at c own (held (own_row o at)), tt)
