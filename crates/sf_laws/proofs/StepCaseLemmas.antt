-- One case analysis over the calls: what a call that flushes nothing makes of a table.
use Rattle.std.proofs.Common.{◌≡◌, ℕ, ◌+◌, ◌≤◌, Bool, true, false, cond, IsTrue, List, [], ◌∷◌, ◌++◌, Option, Some, None, refl, sym, subst}
use Rattle.std.specs.Prelude.{is_some, is_none, unwrap_or, nat_lt, not, bytes_eq}
use Rattle.sf_types.proofs.RefusalLemmas.{same_part}
use Rattle.sf_types.specs.declared.call.Call.{Call}
use Rattle.sf_types.specs.declared.call.Call.TheVariants as call
use Rattle.sf_types.specs.declared.reply.Fault.{Fault}
use Rattle.sf_types.specs.declared.reply.Fault.TheVariants as fault
use Rattle.sf_types.specs.declared.reply.Reply.{Reply}
use Rattle.sf_types.specs.declared.reply.Reply.TheVariants as reply
use Rattle.sf_types.specs.Inside.NameMaps.{with_entry, without_entry}
use Rattle.sf_types.specs.Values.Marks.{Value, empty_value, size_of, strip}
use Rattle.sf_types.specs.Values.Edits.{part}
use Rattle.sf_types.specs.Table.Parts.{Savepoint, Session, Table}
use Rattle.sf_types.specs.Table.Versions.{commit_count, value_at, current_value}
use Rattle.sf_types.specs.Table.Sessions.{has_session, session_of, with_session, row_value, holds_lock, is_busy, with_lock, without_locks, locked_rows, lacks_room}
use Rattle.sf_types.specs.Calls.Refusals.{first_refusal, refusal_or}
use Rattle.sf_types.specs.Calls.RowCalls.{insert_refusal, after_insert, delete_refusal, after_delete, lock_refusal, after_lock, select_refusal, after_select, select_as_of_refusal, after_select_as_of}
use Rattle.sf_types.specs.Calls.Arguments.{argument_refusals}
use Rattle.sf_types.specs.Calls.LocatorCalls.{locator, locator_refusals, assign_refusal, free_refusal, length_refusal, read_refusal, read_bytes, instr_refusal, match_offset, compare_refusal}
use Rattle.sf_types.specs.Calls.WritingCalls.{names_in, source_value, spans_transactions, writing_refusals, writing_refusal, old_value, result_of, write_reply, after_write}
use Rattle.sf_types.specs.Calls.Savepoints.{savepoint_named, savepoint_refusal, after_savepoint, with_rollback_to, no_savepoint, rollback_to_refusal}
use Rattle.sf_types.specs.Calls.TransactionEnds.{with_commit, after_rollback, after_end}
use Rattle.sf_types.specs.Calls.Steps.{part_step, write_step, step}
use Rattle.sf_types.proofs.BoolLemmas.{not_not}
use Rattle.sf_types.proofs.NumberLemmas.{not_less}

-- Something holds of every table that a call of session s may leave.
pub record StepCases (t : Table) (s : ℕ) (Q : Table → Type 0) : Type 0 where
  pub refused : Q t
  pub inserted : (row : List ℕ) → is_busy t.locks s row ≡ false → Q (record (with_session t s (after_insert (session_of t s) row)) { locks = with_lock t.locks s row })
  pub deleted : (row : List ℕ) → is_busy t.locks s row ≡ false → Q (record (with_session t s (after_delete (session_of t s) row)) { locks = with_lock t.locks s row })
  pub locked : (to row : List ℕ) → is_busy t.locks s row ≡ false → Q (record (with_session t s (after_lock (session_of t s) to row (unwrap_or (row_value (session_of t s) (current_value t row) row) empty_value))) { locks = with_lock t.locks s row })
  pub selected : (to row : List ℕ) → Q (with_session t s (after_select (session_of t s) to row (unwrap_or (row_value (session_of t s) (current_value t row) row) empty_value)))
  pub selected_as_of : (to row : List ℕ) (n : ℕ) → t.floor ≤ n → Q (with_session t s (after_select_as_of (session_of t s) to row (unwrap_or (value_at t row n) empty_value)))
  pub assigned : (to from : List ℕ) → let p = session_of t s in Q (with_session t s (record p { locators = with_entry p.locators to (locator p from) }))
  pub freed : (name : List ℕ) → let p = session_of t s in Q (with_session t s (record p { locators = without_entry p.locators name }))
  pub written : (name : List ℕ) (c : Call) → let p = session_of t s in holds_lock t.locks s (locator p name).row ≡ true → Q (with_session t s (after_write p name (result_of p (current_value t (locator p name).row) name c)))
  pub saved : (name : List ℕ) → Q (with_session t s (after_savepoint (session_of t s) (locked_rows t.locks s) name))
  pub gone_back : (name : List ℕ) (x : Savepoint) → savepoint_named (session_of t s) name ≡ Some x → Q (with_rollback_to t s (session_of t s) x)
  pub committed : Q (with_commit t s (session_of t s))
  pub erased : let p = session_of t s in Q (with_session t s (record p { savepoints = [] }))
  pub rolled_back : Q (record (with_session t s (after_rollback (session_of t s))) { locks = without_locks t.locks s })
  pub ended : Q (record (with_session t s (after_end (session_of t s))) { locks = without_locks t.locks s })

pub refused_table : (Q : Table → Type 0) (o : Option Fault) (t : Table) (done : Table × Reply) → Q t → (o ≡ None → Q done.0) → Q (refusal_or o t done).0
refused_table Q None t done before after = after refl
refused_table Q (Some f) t done before after = before

pub refused_part : (Q : Session → Type 0) (o : Option Fault) (p : Session) (done : Session × Reply) → Q p → (o ≡ None → Q done.0) → Q (refusal_or o p done).0
refused_part Q None p done before after = after refl
refused_part Q (Some f) p done before after = before

-- a call that nothing refuses passes each test
passed : (b : Bool) (f : Fault) (ts : List (Bool × Fault)) → first_refusal ((b, f) ∷ ts) ≡ None → (b ≡ false) × (first_refusal ts ≡ None)
passed true f ts none = absurd cc
passed false f ts none = (refl, none)

passed_later : (ts us : List (Bool × Fault)) → first_refusal (ts ++ us) ≡ None → first_refusal us ≡ None
passed_later [] us none = none
passed_later (t ∷ ts) us none = passed_later ts us (passed t.0 t.1 (ts ++ us) none).1

passed_front : (ts us : List (Bool × Fault)) → first_refusal (ts ++ us) ≡ None → first_refusal ts ≡ None
passed_front [] us none = refl
passed_front (t ∷ ts) us none =
    let parts = passed t.0 t.1 (ts ++ us) none in rw parts.0 (passed_front ts us parts.1)

third : (a b c d : Bool) (f g h i : Fault) → first_refusal ((a, f) ∷ (b, g) ∷ (c, h) ∷ (d, i) ∷ []) ≡ None → c ≡ false
third true b c d f g h i none = absurd cc
third false true c d f g h i none = absurd cc
third false false true d f g h i none = absurd cc
third false false false d f g h i none = refl

-- what nothing refuses is written under the row's lock
pub held_where_written : (p : Session) (is_held : Bool) (value : Option Value) (name : List ℕ) (c : Call) → writing_refusal p is_held value name c ≡ None → is_held ≡ true
held_where_written p is_held value name c none =
    let all = passed_front (writing_refusals p is_held value name (names_in name c)) (argument_refusals c (size_of (old_value p value name)) (size_of (source_value p c))) none in
    not_not is_held
    (third (locator p name).is_read_only (spans_transactions p (locator p name)) (not is_held) (is_none (row_value p value (locator p name).row)) fault.ReadOnly fault.SpansTransactions fault.RowNotLocked fault.NoSuchRow
    (passed_later (locator_refusals p (names_in name c)) _ all))

pub first_false : (a : Bool) (f : Fault) (ts : List (Bool × Fault)) → first_refusal ((a, f) ∷ ts) ≡ None → a ≡ false
first_false a f ts none = (passed a f ts none).0

pub second_false : (a b : Bool) (f g : Fault) (ts : List (Bool × Fault)) → first_refusal ((a, f) ∷ (b, g) ∷ ts) ≡ None → b ≡ false
second_false a b f g ts none = first_false b g ts (passed a f ((b, g) ∷ ts) none).1

pub third_false : (a b c : Bool) (f g h : Fault) (ts : List (Bool × Fault)) → first_refusal ((a, f) ∷ (b, g) ∷ (c, h) ∷ ts) ≡ None → c ≡ false
third_false a b c f g h ts none = second_false b c g h ts (passed a f ((b, g) ∷ (c, h) ∷ ts) none).1

pub some_named : (o : Option Savepoint) → is_none o ≡ false → o ≡ Some (unwrap_or o no_savepoint)
some_named None is = absurd cc
some_named (Some x) is = refl

write_cases : (t : Table) (s : ℕ) (Q : Table → Type 0) → Q (with_session t s (session_of t s)) → StepCases t s Q → (name : List ℕ) (c : Call) → Q (write_step t s (session_of t s) name c).0
write_cases t s Q own cases name c =
    let p = session_of t s in
    let row = (locator p name).row in
    refused_part (λ x. Q (with_session t s x)) (writing_refusal p (holds_lock t.locks s row) (current_value t row) name c) p
    (after_write p name (result_of p (current_value t row) name c), write_reply c (old_value p (current_value t row) name)) own
    (λ none. cases.written name c (held_where_written p (holds_lock t.locks s row) (current_value t row) name c none))

commit_cases : (t : Table) (s : ℕ) (Q : Table → Type 0) → StepCases t s Q → (b : Bool) → Q (cond {A = Table × Reply} b (with_commit t s (session_of t s), reply.Committed (commit_count t + 1)) (with_session t s (record (session_of t s) { savepoints = [] }), reply.Committed (commit_count t))).0
commit_cases t s Q cases true = cases.committed
commit_cases t s Q cases false = cases.erased

reading : (t : Table) (s : ℕ) (Q : Table → Type 0) → Q (with_session t s (session_of t s)) → (o : Option Fault) (r : Reply) → Q (part_step t s (refusal_or o (session_of t s) (session_of t s, r))).0
reading t s Q own o r = refused_part (λ x. Q (with_session t s x)) o (session_of t s) (session_of t s, r) own (λ none. own)

step_cases : (t : Table) (s : ℕ) (Q : Table → Type 0) → Q (with_session t s (session_of t s)) → StepCases t s Q → (c : Call) → Q (step t s c).0
step_cases t s Q own cases (call.Insert row) =
    let p = session_of t s in
    refused_table Q (insert_refusal t s p row) t (record (with_session t s (after_insert p row)) { locks = with_lock t.locks s row }, reply.Done) cases.refused
    (λ none. cases.inserted row (first_false (is_busy t.locks s row) fault.Busy ((is_some (row_value p (current_value t row) row), fault.Duplicate) ∷ []) none))
step_cases t s Q own cases (call.Delete row) =
    let p = session_of t s in
    refused_table Q (delete_refusal t s p row) t (record (with_session t s (after_delete p row)) { locks = with_lock t.locks s row }, reply.Done) cases.refused
    (λ none. cases.deleted row (first_false (is_busy t.locks s row) fault.Busy ((is_none (row_value p (current_value t row) row), fault.NoSuchRow) ∷ []) none))
step_cases t s Q own cases (call.Lock to row) =
    let p = session_of t s in
    let value = unwrap_or (row_value p (current_value t row) row) empty_value in
    refused_table Q (lock_refusal t s p to row) t (record (with_session t s (after_lock p to row value)) { locks = with_lock t.locks s row }, reply.Done) cases.refused
    (λ none. cases.locked to row (second_false (lacks_room p to) (is_busy t.locks s row) fault.TooManyLocators fault.Busy ((is_none (row_value p (current_value t row) row), fault.NoSuchRow) ∷ []) none))
step_cases t s Q own cases (call.Select to row) =
    let p = session_of t s in
    let value = unwrap_or (row_value p (current_value t row) row) empty_value in
    refused_table Q (select_refusal t p to row) t (with_session t s (after_select p to row value), reply.Done) cases.refused (λ none. cases.selected to row)
step_cases t s Q own cases (call.SelectAsOf to row n) =
    let p = session_of t s in
    let value = unwrap_or (value_at t row n) empty_value in
    refused_table Q (select_as_of_refusal t p to row n) t (with_session t s (after_select_as_of p to row value), reply.Done) cases.refused
    (λ none. cases.selected_as_of to row n (not_less n t.floor (third_false (lacks_room p to) (nat_lt (commit_count t) n) (nat_lt n t.floor) fault.TooManyLocators fault.FutureCommit fault.TooOld ((is_none (value_at t row n), fault.NoSuchRow) ∷ []) none)))
step_cases t s Q own cases (call.Assign to from) =
    let p = session_of t s in
    refused_part (λ x. Q (with_session t s x)) (assign_refusal p to from) p (record p { locators = with_entry p.locators to (locator p from) }, reply.Done) own (λ none. cases.assigned to from)
step_cases t s Q own cases (call.Free name) =
    let p = session_of t s in
    refused_part (λ x. Q (with_session t s x)) (free_refusal p name) p (record p { locators = without_entry p.locators name }, reply.Done) own (λ none. cases.freed name)
step_cases t s Q own cases (call.Length name) =
    let p = session_of t s in reading t s Q own (length_refusal p name) (reply.Number (size_of (locator p name).value))
step_cases t s Q own cases (call.Read name amount offset) =
    let p = session_of t s in reading t s Q own (read_refusal p name amount offset) (reply.Bytes (read_bytes (locator p name).value amount offset))
step_cases t s Q own cases (call.Instr name pattern offset) =
    let p = session_of t s in reading t s Q own (instr_refusal p name pattern offset) (reply.Number (match_offset (strip (locator p name).value) pattern offset))
step_cases t s Q own cases (call.Compare left right amount left_offset right_offset) =
    let p = session_of t s in
    reading t s Q own (compare_refusal p left right amount left_offset right_offset) (reply.Equal (bytes_eq (part (strip (locator p left).value) amount left_offset) (part (strip (locator p right).value) amount right_offset)))
step_cases t s Q own cases (call.Savepoint name) =
    let p = session_of t s in
    refused_part (λ x. Q (with_session t s x)) (savepoint_refusal p name) p (after_savepoint p (locked_rows t.locks s) name, reply.Done) own (λ none. cases.saved name)
step_cases t s Q own cases (call.RollbackTo name) =
    let p = session_of t s in
    let x = unwrap_or (savepoint_named p name) no_savepoint in
    refused_table Q (rollback_to_refusal p name) t (with_rollback_to t s p x, reply.Done) cases.refused
    (λ none. cases.gone_back name x (some_named (savepoint_named p name) (first_false (is_none (savepoint_named p name)) fault.NoSavepoint [] none)))
step_cases t s Q own cases call.Commit = commit_cases t s Q cases (session_of t s).is_open
step_cases t s Q own cases call.Rollback = cases.rolled_back
step_cases t s Q own cases call.End = cases.ended
step_cases t s Q own cases (call.Write name offset buffer) = write_cases t s Q own cases name (call.Write name offset buffer)
step_cases t s Q own cases (call.WriteAppend name buffer) = write_cases t s Q own cases name (call.WriteAppend name buffer)
step_cases t s Q own cases (call.Append name from) = write_cases t s Q own cases name (call.Append name from)
step_cases t s Q own cases (call.Copy name from amount to_offset from_offset) = write_cases t s Q own cases name (call.Copy name from amount to_offset from_offset)
step_cases t s Q own cases (call.Erase name amount offset) = write_cases t s Q own cases name (call.Erase name amount offset)
step_cases t s Q own cases (call.Trim name new_size) = write_cases t s Q own cases name (call.Trim name new_size)
step_cases t s Q own cases (call.FragInsert name offset buffer) = write_cases t s Q own cases name (call.FragInsert name offset buffer)
step_cases t s Q own cases (call.FragDelete name amount offset) = write_cases t s Q own cases name (call.FragDelete name amount offset)
step_cases t s Q own cases (call.FragMove name amount from_offset to_offset) = write_cases t s Q own cases name (call.FragMove name amount from_offset to_offset)
step_cases t s Q own cases (call.FragReplace name old_amount offset buffer) = write_cases t s Q own cases name (call.FragReplace name old_amount offset buffer)
step_cases t s Q own cases (call.SetOptions name share) = write_cases t s Q own cases name (call.SetOptions name share)

pub by_cases : (t : Table) (s : ℕ) (Q : Table → Type 0) → IsTrue (has_session t s) → StepCases t s Q → (c : Call) → Q (step t s c).0
by_cases t s Q has cases c = step_cases t s Q (subst Q (sym (same_part t s has)) cases.refused) cases c
