-- Which calls entries end, and which of them end a session.
use Rattle.std.proofs.Common.{◌≡◌, ℕ, ◌-◌, ◌+◌, Bool, true, false, cond, IsTrue, List, [], ◌∷◌, ◌++◌, Option, Some, None, refl, sym, ap, ◌∙◌}
use Rattle.std.specs.Prelude.{◌==◌, slice_set, unwrap_or, option_map}
use Rattle.std.specs.List.{AllByRecursion as Each, filter_map, cons_option}
use Rattle.std.proofs.lemmas.List.Elements.{filter_map-append}
use Rattle.sf_types.specs.declared.call.Call.{Call}
use Rattle.sf_types.specs.declared.call.Call.TheVariants as call
use Rattle.sf_types.specs.declared.history.Entry.{Entry}
use Rattle.sf_types.specs.declared.history.Kind.TheVariants as kind
use Rattle.sf_types.specs.declared.reply.Fault.{Fault}
use Rattle.sf_types.specs.declared.reply.Reply.{Reply}
use Rattle.sf_types.specs.declared.reply.Reply.TheVariants as reply
use Rattle.sf_types.specs.Table.Parts.{Session, Table}
use Rattle.sf_types.specs.Table.Sessions.{has_session, session_of, with_session, with_lock, without_locks}
use Rattle.sf_types.specs.Table.Versions.{commit_count, current_value, value_at}
use Rattle.sf_types.specs.Values.Marks.{empty_value}
use Rattle.sf_types.specs.Table.Sessions.{row_value}
use Rattle.sf_types.specs.Calls.Refusals.{refusal_or}
use Rattle.sf_types.specs.Calls.RowCalls.{insert_refusal, after_insert, delete_refusal, after_delete, lock_refusal, after_lock, select_refusal, after_select, select_as_of_refusal, after_select_as_of}
use Rattle.sf_types.specs.Calls.Savepoints.{savepoint_named, no_savepoint, rollback_to_refusal, after_rollback_to, with_rollback_to}
use Rattle.sf_types.specs.Calls.TransactionEnds.{after_commit, with_commit, after_rollback, after_end}
use Rattle.sf_types.specs.Calls.Steps.{step}
use Rattle.sf_types.specs.Space.Publications.{publish, with_contents, settled_result, without_promise}
use Rattle.sf_types.specs.Calls.WritingCalls.{after_write}
use Rattle.sf_types.specs.Orders.Histories.{effect_of, entry_of, call_entries, table_after, call_ends_from, call_end_of}
use Rattle.sf_types.specs.Halves.Own.{is_event, own_of, own_call}
use Rattle.sf_types.proofs.NameMapLemmas.{IsRisingMap}
use Rattle.sf_types.proofs.NumberLemmas.{own_number, other_number}
use Rattle.sf_laws.specs.Plays.{ended_by}
use Rattle.sf_laws.proofs.OwnLemmas.{goes_on, step_by_own}
use Rattle.sf_laws.proofs.PromiseLemmas.{own_session}
use Rattle.sf_laws.proofs.PublishCaseLemmas.{by_publish_cases, settled_part}

-- Whether a call is an End.
abbrev pub is_end : Call → Bool
is_end call.End = true
is_end _ = false

pub not_end : (c : Call) → (c ≡ call.End → ⊥) → is_end c ≡ false
not_end call.End apart = absurd (apart refl)
not_end c apart = refl

pub no_end : (c : Call) → is_event c ≡ false → is_end c ≡ false
no_end call.End is = absurd cc
no_end c is = refl

-- A session goes on.
abbrev Goes : Table → ℕ → Type 0
Goes t s = (session_of t s).has_ended ≡ false

goes_with : (t u : Table) (s : ℕ) (part : Session) → IsTrue (has_session t s) → u.sessions ≡ slice_set t.sessions (s - 1) part → part.has_ended ≡ false → (session_of u s).has_ended ≡ false
goes_with t u s part has is going = ap (λ (p : Session). p.has_ended) (own_session t u s part has is) ∙ going

goes_where : (o : Option Fault) (t u : Table) (r : Reply) (s : ℕ) (part : Session) → IsTrue (has_session t s) → u.sessions ≡ slice_set t.sessions (s - 1) part → part.has_ended ≡ false → (session_of t s).has_ended ≡ false
    → (session_of (refusal_or o t (u, r)).0 s).has_ended ≡ false
goes_where None t u r s part has is part_goes going = goes_with t u s part has is part_goes
goes_where (Some f) t u r s part has is part_goes going = going

ended_event : (t : Table) (s : ℕ) (c : Call) → IsTrue (has_session t s) → (session_of t s).has_ended ≡ false → is_event c ≡ true → (session_of (step t s c).0 s).has_ended ≡ is_end c
ended_event t s (call.Insert row) has going is =
    let p = session_of t s in
    goes_where (insert_refusal t s p row) t (record (with_session t s (after_insert p row)) { locks = with_lock t.locks s row }) reply.Done s (after_insert p row) has refl going going
ended_event t s (call.Delete row) has going is =
    let p = session_of t s in
    goes_where (delete_refusal t s p row) t (record (with_session t s (after_delete p row)) { locks = with_lock t.locks s row }) reply.Done s (after_delete p row) has refl going going
ended_event t s (call.Lock to row) has going is =
    let p = session_of t s in
    let value = unwrap_or (row_value p (current_value t row) row) empty_value in
    goes_where (lock_refusal t s p to row) t (record (with_session t s (after_lock p to row value)) { locks = with_lock t.locks s row }) reply.Done s (after_lock p to row value) has refl going going
ended_event t s (call.Select to row) has going is =
    let p = session_of t s in
    let value = unwrap_or (row_value p (current_value t row) row) empty_value in
    goes_where (select_refusal t p to row) t (with_session t s (after_select p to row value)) reply.Done s (after_select p to row value) has refl going going
ended_event t s (call.SelectAsOf to row n) has going is =
    let p = session_of t s in
    let value = unwrap_or (value_at t row n) empty_value in
    goes_where (select_as_of_refusal t p to row n) t (with_session t s (after_select_as_of p to row value)) reply.Done s (after_select_as_of p to row value) has refl going going
ended_event t s (call.RollbackTo name) has going is =
    let p = session_of t s in
    let x = unwrap_or (savepoint_named p name) no_savepoint in
    goes_where (rollback_to_refusal p name) t (with_rollback_to t s p x) reply.Done s (after_rollback_to p x) has refl going going
ended_event t s call.Commit has going is =
    let p = session_of t s in
    elim p.is_open as (λ b. (session_of (cond {A = Table × Reply} b (with_commit t s p, reply.Committed (commit_count t + 1)) (with_session t s (record p { savepoints = [] }), reply.Committed (commit_count t))).0 s).has_ended ≡ false) [
      | true ↦ goes_with t (with_commit t s p) s (after_commit p) has refl going
      | false ↦ goes_with t (with_session t s (record p { savepoints = [] })) s (record p { savepoints = [] }) has refl going
    ]
ended_event t s call.Rollback has going is =
    let p = session_of t s in
    goes_with t (record (with_session t s (after_rollback p)) { locks = without_locks t.locks s }) s (after_rollback p) has refl going
ended_event t s call.End has going is =
    let p = session_of t s in
    ap (λ (x : Session). x.has_ended) (own_session t (record (with_session t s (after_end p)) { locks = without_locks t.locks s }) s (after_end p) has refl)
ended_event t s c has going is = absurd cc

pub ended_step : (t : Table) (s : ℕ) (c : Call) → IsTrue (has_session t s) → IsRisingMap t.locks → (session_of t s).promise ≡ None → (session_of t s).has_ended ≡ false → (session_of (step t s c).0 s).has_ended ≡ is_end c
ended_step t s c has rising none going =
    elim (is_event c) as (λ b. is_event c ≡ b → (session_of (step t s c).0 s).has_ended ≡ is_end c) [
      | true ↦ λ is. ended_event t s c has going is
      | false ↦ λ is.
          let part = (own_call (own_of t s) c).0 in
          let same : (step t s c).0 ≡ with_session t s part = ap (λ (x : Table × Reply). x.0) (step_by_own t s c rising none is) in
          ap (λ (u : Table). (session_of u s).has_ended) same ∙ ap (λ (x : Session). x.has_ended) (own_session t (with_session t s part) s part has refl) ∙ (goes_on (own_of t s) c).0 ∙ going ∙ sym (no_end c is)
    ] refl

pub goes_published : (t : Table) (s : ℕ) (c : Call) → IsTrue (has_session t s) → (session_of t s).has_ended ≡ false → (session_of (publish t s c).0 s).has_ended ≡ false
goes_published t s c has going = by_publish_cases t s c (λ u. (session_of u s).has_ended ≡ false) (record {
  committed = λ is. goes_with t (with_commit (with_contents t s call.Commit) s (settled_part t s)) s (after_commit (settled_part t s)) has refl going;
  left_open = λ is. goes_with t (with_session (with_contents t s call.Commit) s (record (settled_part t s) { savepoints = [] })) s (record (settled_part t s) { savepoints = [] }) has refl going;
  written = λ at is flush.
      let part = after_write (without_promise (session_of t s)) at (settled_result t s (session_of t s) at c) in
      goes_with t (with_session (with_contents t s c) s part) s part has refl going;
  nothing = λ is flush. goes_with t (with_session t s (without_promise (session_of t s))) s (without_promise (session_of t s)) has refl going;
})

-- the calls that entries end, one after the other
pub ends-append : (t : Table) (xs ys : List Entry) → call_ends_from t (xs ++ ys) ≡ call_ends_from t xs ++ call_ends_from (table_after t xs) ys
ends-append t [] ys = refl
ends-append t (x ∷ xs) ys = ap (λ (rest : List (ℕ × Option Call)). (x.token.session, option_map (λ answer. x.call) (effect_of t x).1) ∷ rest) (ends-append (effect_of t x).0 xs ys)

pub ended-append : (s : ℕ) (t : Table) (xs ys : List Entry) → ended_by s t (xs ++ ys) ≡ ended_by s t xs ++ ended_by s (table_after t xs) ys
ended-append s t xs ys = ap (filter_map (call_end_of s)) (ends-append t xs ys) ∙ filter_map-append (call_end_of s) (call_ends_from t xs) (call_ends_from (table_after t xs) ys)

-- entries of a session end no call of another
pub ended_of_other : (r s : ℕ) (t : Table) (es : List Entry) → (r ≡ s → ⊥) → Each (λ e. e.token.session ≡ s) es → ended_by r t es ≡ []
ended_of_other r s t [] apart all = refl
ended_of_other r s t (e ∷ es) apart all =
    let other : (e.token.session == r) ≡ false = other_number e.token.session r (λ same. apart (sym same ∙ all.0)) in
    ap (λ b. cons_option (cond b (option_map (λ answer. e.call) (effect_of t e).1) None) (ended_by r (effect_of t e).0 es)) other
    ∙ ended_of_other r s (effect_of t e).0 es apart all.1

-- an entry of a session ends its call where there is a reply
pub ended_of_own : (s : ℕ) (t : Table) (e : Entry) (es : List Entry) → e.token.session ≡ s → ended_by s t (e ∷ es) ≡ cons_option (option_map (λ answer. e.call) (effect_of t e).1) (ended_by s (effect_of t e).0 es)
ended_of_own s t e es is =
    let own : (e.token.session == s) ≡ true = ap (λ n. n == s) is ∙ own_number s in
    ap (λ b. cons_option (cond b (option_map (λ answer. e.call) (effect_of t e).1) None) (ended_by s (effect_of t e).0 es)) own

pub ended_calls_of : (s : ℕ) (t : Table) (cs : List Call) → ended_by s t (call_entries s cs) ≡ cs
ended_calls_of s t [] = refl
ended_calls_of s t (c ∷ cs) =
    let e = entry_of s kind.Call c in
    ended_of_own s t e (call_entries s cs) refl ∙ ap (λ (rest : List Call). c ∷ rest) (ended_calls_of s (effect_of t e).0 cs)
