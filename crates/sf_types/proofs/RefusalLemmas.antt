-- A refused call changes nothing.
use Rattle.std.proofs.Common.{◌≡◌, ℕ, ◌+◌, ◌-◌, Bool, true, false, cond, IsTrue, List, [], length, get_or, Option, Some, None, refl, ap, ◌∙◌}
use Rattle.std.specs.Prelude.{unwrap_or, slice_set, find}
use Rattle.std.specs.Option.{option_map_or}
use Rattle.std.proofs.lemmas.Option.{slice_get-get_or}
use Rattle.std.proofs.lemmas.List.{set-get_or}
use Rattle.sf_types.proofs.NumberLemmas.{one_less}
use Rattle.sf_types.specs.declared.call.Call.{Call}
use Rattle.sf_types.specs.declared.call.Call.TheVariants as call
use Rattle.sf_types.specs.declared.reply.Fault.{Fault}
use Rattle.sf_types.specs.declared.reply.Reply.{Reply}
use Rattle.sf_types.specs.declared.reply.Reply.TheVariants as reply
use Rattle.sf_types.specs.Calls.Refusals.{refusal_or}
use Rattle.sf_types.specs.Table.Parts.{Promise, Session, Table, new_session}
use Rattle.sf_types.specs.Table.Sessions.{has_session, session_of, with_session, holds_lock}
use Rattle.sf_types.specs.Values.Marks.{Value}
use Rattle.sf_types.specs.Table.Versions.{current_value, commit_count}
use Rattle.sf_types.specs.Calls.LocatorCalls.{locator}
use Rattle.sf_types.specs.Calls.WritingCalls.{written_name, writing_refusal, after_write, result_of, write_reply, old_value}
use Rattle.sf_types.specs.Calls.TransactionEnds.{commit_call, with_commit}
use Rattle.sf_types.specs.Calls.Steps.{part_step, write_step, step}
use Rattle.sf_types.specs.declared.history.Kind.{Kind}
use Rattle.sf_types.specs.declared.history.Kind.TheVariants as kind
use Rattle.sf_types.specs.Space.Cuts.{Cut}
use Rattle.sf_types.specs.Space.Due.{written_row}
use Rattle.sf_types.specs.Space.Promises.{flush_cuts, fits_at, floor_candidates, promise_at}
use Rattle.sf_types.specs.Space.Publications.{publish_of, publish_write, without_promise, with_contents, settled_flush}
use Rattle.sf_types.specs.Orders.Histories.{call_effect, entry_effect}

-- a session's own part put back
pub same_part : (t : Table) (s : ℕ) → IsTrue (has_session t s) → with_session t s (session_of t s) ≡ t
same_part t s has =
    let own : session_of t s ≡ get_or t.sessions (s - 1) new_session = ap (λ o. unwrap_or o new_session) (slice_get-get_or t.sessions (s - 1) new_session (one_less s (length t.sessions) has)) in
    ap (λ (xs : List Session). record t { sessions = xs }) (ap (slice_set t.sessions (s - 1)) own ∙ set-get_or t.sessions (s - 1) new_session)

-- What is done is no refusal.
abbrev IsNoRefusal : Reply → Type 0
IsNoRefusal r = (f : Fault) → r ≡ reply.Refused f → ⊥

-- what is refused leaves what was before
before-is : {A : Type 0} (o : Option Fault) (before : A) (done : A × Reply) (f : Fault) → IsNoRefusal done.1 → (refusal_or o before done).1 ≡ reply.Refused f → (refusal_or o before done).0 ≡ before
before-is None before done f never is = absurd (never f is)
before-is (Some g) before done f never is = refl

-- the same of a call that changes its session's part alone
part-is : (t : Table) (s : ℕ) (o : Option Fault) (done : Session × Reply) (f : Fault) → IsTrue (has_session t s) → IsNoRefusal done.1
    → (part_step t s (refusal_or o (session_of t s) done)).1 ≡ reply.Refused f → (part_step t s (refusal_or o (session_of t s) done)).0 ≡ t
part-is t s o done f has never is = ap (with_session t s) (before-is o (session_of t s) done f never is) ∙ same_part t s has

no_done : IsNoRefusal reply.Done
no_done f is = absurd cc

no_number : (n : ℕ) → IsNoRefusal (reply.Number n)
no_number n f is = absurd cc

no_bytes : (bytes : List ℕ) → IsNoRefusal (reply.Bytes bytes)
no_bytes bytes f is = absurd cc

no_equal : (same : Bool) → IsNoRefusal (reply.Equal same)
no_equal same f is = absurd cc

pub answers_no_refusal : (c : Call) (v : Value) → IsNoRefusal (write_reply c v)
answers_no_refusal (call.Erase at amount offset) v f is = absurd cc
answers_no_refusal _ v f is = absurd cc

write-is : (t : Table) (s : ℕ) (at : List ℕ) (c : Call) (f : Fault) → IsTrue (has_session t s) → (write_step t s (session_of t s) at c).1 ≡ reply.Refused f → (write_step t s (session_of t s) at c).0 ≡ t
write-is t s at c f has is =
    let p = session_of t s in
    let row = (locator p at).row in
    let value = current_value t row in
    part-is t s (writing_refusal p (holds_lock t.locks s row) value at c) (after_write p at (result_of p value at c), write_reply c (old_value p value at)) f has (answers_no_refusal c (old_value p value at)) is

pub commit_no_refusal : (t : Table) (s : ℕ) (p : Session) → IsNoRefusal (commit_call t s p).1
commit_no_refusal t s p f is = by_open p.is_open is
  where
    by_open : (b : Bool) → (cond {A = Table × Reply} b (with_commit t s p, reply.Committed (commit_count t + 1)) (with_session t s (record p { savepoints = [] }), reply.Committed (commit_count t))).1 ≡ reply.Refused f → ⊥
    by_open true is = cc
    by_open false is = cc

-- a call that flushes nothing and is refused leaves the table as it was
pub step_refused : (t : Table) (s : ℕ) (c : Call) (f : Fault) → IsTrue (has_session t s) → (step t s c).1 ≡ reply.Refused f → (step t s c).0 ≡ t
step_refused t s (call.Insert row) f has is = before-is _ t _ f no_done is
step_refused t s (call.Delete row) f has is = before-is _ t _ f no_done is
step_refused t s (call.Lock to row) f has is = before-is _ t _ f no_done is
step_refused t s (call.Select to row) f has is = before-is _ t _ f no_done is
step_refused t s (call.SelectAsOf to row n) f has is = before-is _ t _ f no_done is
step_refused t s (call.Assign to from) f has is = part-is t s _ _ f has no_done is
step_refused t s (call.Free at) f has is = part-is t s _ _ f has no_done is
step_refused t s (call.Length at) f has is = part-is t s _ _ f has (no_number _) is
step_refused t s (call.Read at amount offset) f has is = part-is t s _ _ f has (no_bytes _) is
step_refused t s (call.Instr at pattern offset) f has is = part-is t s _ _ f has (no_number _) is
step_refused t s (call.Compare left right amount left_offset right_offset) f has is = part-is t s _ _ f has (no_equal _) is
step_refused t s (call.Write at offset buffer) f has is = write-is t s at (call.Write at offset buffer) f has is
step_refused t s (call.WriteAppend at buffer) f has is = write-is t s at (call.WriteAppend at buffer) f has is
step_refused t s (call.Append at from) f has is = write-is t s at (call.Append at from) f has is
step_refused t s (call.Copy at from amount to_offset from_offset) f has is = write-is t s at (call.Copy at from amount to_offset from_offset) f has is
step_refused t s (call.Erase at amount offset) f has is = write-is t s at (call.Erase at amount offset) f has is
step_refused t s (call.Trim at new_size) f has is = write-is t s at (call.Trim at new_size) f has is
step_refused t s (call.FragInsert at offset buffer) f has is = write-is t s at (call.FragInsert at offset buffer) f has is
step_refused t s (call.FragDelete at amount offset) f has is = write-is t s at (call.FragDelete at amount offset) f has is
step_refused t s (call.FragMove at amount from_offset to_offset) f has is = write-is t s at (call.FragMove at amount from_offset to_offset) f has is
step_refused t s (call.FragReplace at old_amount offset buffer) f has is = write-is t s at (call.FragReplace at old_amount offset buffer) f has is
step_refused t s (call.SetOptions at share) f has is = write-is t s at (call.SetOptions at share) f has is
step_refused t s (call.Savepoint name) f has is = part-is t s _ _ f has no_done is
step_refused t s (call.RollbackTo name) f has is = before-is _ t _ f no_done is
step_refused t s call.Commit f has is = absurd (commit_no_refusal t s (session_of t s) f is)
step_refused t s call.Rollback f has is = absurd cc
step_refused t s call.End f has is = absurd cc

-- a publication is never refused
other_no_refusal : (t : Table) (s : ℕ) (p : Session) (c : Call) (o : Option (List ℕ)) → IsNoRefusal (option_map_or (λ at. publish_write t s p at c) o (with_session t s (without_promise p), reply.Done)).1
other_no_refusal t s p c None f is = no_done f is
other_no_refusal t s p c (Some at) f is = answers_no_refusal c (old_value p (current_value t (written_row p at)) at) f is

pub publish_no_refusal : (t : Table) (s : ℕ) (p : Session) (c : Call) → IsNoRefusal (publish_of t s p c).1
publish_no_refusal t s p call.Commit f is = commit_no_refusal (with_contents t s call.Commit) s (record (without_promise p) { working = settled_flush t s call.Commit }) f is
publish_no_refusal t s p c f is = other_no_refusal t s p c (written_name c) f is

call_refused : (t : Table) (s : ℕ) (c : Call) (o : Option Promise) (f : Fault) → IsTrue (has_session t s) → (call_effect o t s c).1 ≡ reply.Refused f → (call_effect o t s c).0 ≡ t
call_refused t s c None f has is = step_refused t s c f has is
call_refused t s c (Some q) f has is = absurd (publish_no_refusal t s (session_of t s) c f is)

promise_refused : (t : Table) (s : ℕ) (c : Call) (of : List Cut) (o : Option ℕ) (r : Reply) → (promise_at t s c of o).1 ≡ Some r → (promise_at t s c of o).0 ≡ t
promise_refused t s c of None r is = refl
promise_refused t s c of (Some h) r is = absurd cc

pub some-is : (r q : Reply) → ◌≡◌ {A = Option Reply} (Some r) (Some q) → r ≡ q
some-is r q is = cc

-- a refused entry leaves the table as it was
pub entry_refused : (t : Table) (s : ℕ) (k : Kind) (c : Call) (f : Fault) → IsTrue (has_session t s) → (entry_effect t s k c).1 ≡ Some (reply.Refused f) → (entry_effect t s k c).0 ≡ t
entry_refused t s kind.Call c f has is = call_refused t s c (session_of t s).promise f has (some-is _ _ is)
entry_refused t s kind.Promise c f has is = promise_refused t s c (flush_cuts t s c) (find (fits_at t (flush_cuts t s c)) (floor_candidates t)) (reply.Refused f) is
entry_refused t s kind.Cancel c f has is = absurd cc
