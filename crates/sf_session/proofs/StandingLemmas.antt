-- What stands with a call: nothing refused where the store answers, and what it flushes.
use Rattle.std.proofs.Common.{◌≡◌, ◌⊎◌, inl, inr, ℕ, Bool, true, false, List, [], ◌∷◌, ◌++◌, Option, Some, None, refl, sym, ap, subst, ◌∙◌, append-nil}
use Rattle.std.specs.Option.{option_map, option_map_or}
use Rattle.sf_types.specs.Rooms.{Roomy}
use Rattle.sf_types.specs.declared.call.Call.{Call}
use Rattle.sf_types.specs.declared.call.Call.TheVariants as call
use Rattle.sf_types.specs.declared.options.Options.{Options}
use Rattle.sf_types.specs.Values.Marks.{Value}
use Rattle.sf_types.specs.Table.Parts.{Rows}
use Rattle.sf_types.specs.Calls.WritingCalls.{written_name, result_of}
use Rattle.sf_types.specs.Space.Cuts.{Cut, cuts, cuts_of_value}
use Rattle.sf_types.specs.Halves.Own.{Own, is_event, own_due, held_value, own_row}
use Rattle.sf_types.specs.declared.reply.Fault.{Fault}
use Rattle.sf_types.specs.Halves.Asks.{Known, Working, Settles, Refused, request_of}
use Rattle.sf_types.specs.Halves.Flushes.{own_flush}
use Rattle.sf_versions.specs.declared.asks.Answer.{Answer}
use Rattle.sf_versions.specs.declared.asks.Answer.TheVariants as answer
use Rattle.sf_versions.specs.Asks.{IsAnswer}
use Rattle.sf_own_part.specs.declared.answers.Prepared.{Prepared}
use Rattle.sf_own_part.specs.declared.answers.Prepared.TheVariants as prepared
use Rattle.sf_own_part.specs.declared.writes.Written.{Written}
use Rattle.sf_own_part.specs.Ends.{IsPrepared, IsPreparedWrite, IsRefusal, IsRefusing, IsKnown}
use Rattle.sf_own_part.specs.OwnWrites.{write_refusal, written}
use Rattle.sf_own_part.proofs.LocalLemmas.{is_full, due_prepared}
use Rattle.sf_session.specs.declared.phase.Phase.{Phase}
use Rattle.sf_session.specs.declared.phase.Phase.TheVariants.{Unpromised, Promised, Collected}
use Rattle.sf_session.specs.declared.session_core.Standing.{Standing}
use Rattle.sf_session.specs.Inside.Standings.{IsPhase, CanEnd, IsStanding, IsResult}

event_kept : (o : Own) (c : Call) (p : Prepared) → is_event c ≡ true → IsPrepared o c p → IsRefusal p → ⊥
event_kept o (call.Insert row) prepared.Nothing event is refusal = absurd refusal
event_kept o (call.Insert row) (prepared.Row other value) event is refusal = absurd refusal
event_kept o (call.Insert row) (prepared.Restored rows) event is refusal = absurd refusal
event_kept o (call.Insert row) (prepared.Written w) event is refusal = absurd refusal
event_kept o (call.Insert row) (prepared.Refused fault) event is refusal = absurd is
event_kept o (call.Delete row) prepared.Nothing event is refusal = absurd refusal
event_kept o (call.Delete row) (prepared.Row other value) event is refusal = absurd refusal
event_kept o (call.Delete row) (prepared.Restored rows) event is refusal = absurd refusal
event_kept o (call.Delete row) (prepared.Written w) event is refusal = absurd refusal
event_kept o (call.Delete row) (prepared.Refused fault) event is refusal = absurd is
event_kept o (call.Lock to row) prepared.Nothing event is refusal = absurd refusal
event_kept o (call.Lock to row) (prepared.Row other value) event is refusal = absurd refusal
event_kept o (call.Lock to row) (prepared.Restored rows) event is refusal = absurd refusal
event_kept o (call.Lock to row) (prepared.Written w) event is refusal = absurd refusal
event_kept o (call.Lock to row) (prepared.Refused fault) event is refusal = absurd is
event_kept o (call.Select to row) prepared.Nothing event is refusal = absurd refusal
event_kept o (call.Select to row) (prepared.Row other value) event is refusal = absurd refusal
event_kept o (call.Select to row) (prepared.Restored rows) event is refusal = absurd refusal
event_kept o (call.Select to row) (prepared.Written w) event is refusal = absurd refusal
event_kept o (call.Select to row) (prepared.Refused fault) event is refusal = absurd is
event_kept o (call.SelectAsOf to row n) prepared.Nothing event is refusal = absurd refusal
event_kept o (call.SelectAsOf to row n) (prepared.Row other value) event is refusal = absurd refusal
event_kept o (call.SelectAsOf to row n) (prepared.Restored rows) event is refusal = absurd refusal
event_kept o (call.SelectAsOf to row n) (prepared.Written w) event is refusal = absurd refusal
event_kept o (call.SelectAsOf to row n) (prepared.Refused fault) event is refusal = absurd is
event_kept o (call.Assign to from) p event is refusal = absurd cc
event_kept o (call.Free at) p event is refusal = absurd cc
event_kept o (call.Length at) p event is refusal = absurd cc
event_kept o (call.Read at amount offset) p event is refusal = absurd cc
event_kept o (call.Instr at pattern offset) p event is refusal = absurd cc
event_kept o (call.Compare left right amount left_offset right_offset) p event is refusal = absurd cc
event_kept o (call.Write at offset buffer) p event is refusal = absurd cc
event_kept o (call.WriteAppend at buffer) p event is refusal = absurd cc
event_kept o (call.Append at from) p event is refusal = absurd cc
event_kept o (call.Copy at from amount to_offset from_offset) p event is refusal = absurd cc
event_kept o (call.Erase at amount offset) p event is refusal = absurd cc
event_kept o (call.Trim at size) p event is refusal = absurd cc
event_kept o (call.FragInsert at offset buffer) p event is refusal = absurd cc
event_kept o (call.FragDelete at amount offset) p event is refusal = absurd cc
event_kept o (call.FragMove at amount from_offset to_offset) p event is refusal = absurd cc
event_kept o (call.FragReplace at old_amount offset buffer) p event is refusal = absurd cc
event_kept o (call.SetOptions at share) p event is refusal = absurd cc
event_kept o (call.Savepoint name) p event is refusal = absurd cc
event_kept o (call.RollbackTo name) prepared.Nothing event is refusal = absurd refusal
event_kept o (call.RollbackTo name) (prepared.Row other value) event is refusal = absurd refusal
event_kept o (call.RollbackTo name) (prepared.Restored rows) event is refusal = absurd refusal
event_kept o (call.RollbackTo name) (prepared.Written w) event is refusal = absurd refusal
event_kept o (call.RollbackTo name) (prepared.Refused fault) event is refusal = absurd is
event_kept o call.Commit prepared.Nothing event is refusal = absurd refusal
event_kept o call.Commit (prepared.Row other value) event is refusal = absurd refusal
event_kept o call.Commit (prepared.Restored rows) event is refusal = absurd refusal
event_kept o call.Commit (prepared.Written w) event is refusal = absurd refusal
event_kept o call.Commit (prepared.Refused fault) event is refusal = absurd is
event_kept o call.Rollback prepared.Nothing event is refusal = absurd refusal
event_kept o call.Rollback (prepared.Row other value) event is refusal = absurd refusal
event_kept o call.Rollback (prepared.Restored rows) event is refusal = absurd refusal
event_kept o call.Rollback (prepared.Written w) event is refusal = absurd refusal
event_kept o call.Rollback (prepared.Refused fault) event is refusal = absurd is
event_kept o call.End prepared.Nothing event is refusal = absurd refusal
event_kept o call.End (prepared.Row other value) event is refusal = absurd refusal
event_kept o call.End (prepared.Restored rows) event is refusal = absurd refusal
event_kept o call.End (prepared.Written w) event is refusal = absurd refusal
event_kept o call.End (prepared.Refused fault) event is refusal = absurd is

due_kept : (gather : ℕ) (o : Own) (c : Call) (p : Prepared) → own_due gather o c ≡ true → IsPrepared o c p → IsRefusal p → ⊥
due_kept gather o c prepared.Nothing due is refusal = absurd refusal
due_kept gather o c (prepared.Row name value) due is refusal = absurd refusal
due_kept gather o c (prepared.Restored rows) due is refusal = absurd refusal
due_kept gather o c (prepared.Written w) due is refusal = absurd refusal
due_kept gather o c (prepared.Refused fault) due is refusal =
    let apart : c ≡ call.Commit → ⊥ = λ same. absurd (subst (λ d. IsPrepared o d (prepared.Refused fault)) same is) in
    let bad : false ≡ true = due_prepared gather o c (prepared.Refused fault) apart is ∙ due in
    absurd cc

-- Nothing is prepared as refused for an event, nor for a due call.
pub never_refused : (gather : ℕ) (o : Own) (c : Call) (p : Prepared) → (is_event c ≡ true) ⊎ (own_due gather o c ≡ true) → IsPrepared o c p → IsRefusal p → ⊥
never_refused gather o c p (inl event) is refusal = event_kept o c p event is refusal
never_refused gather o c p (inr due) is refusal = due_kept gather o c p due is refusal

is_commit : (c : Call) → (c ≡ call.Commit) ⊎ (c ≡ call.Commit → ⊥)
is_commit (call.Insert row) = inr (λ same. absurd cc)
is_commit (call.Delete row) = inr (λ same. absurd cc)
is_commit (call.Lock to row) = inr (λ same. absurd cc)
is_commit (call.Select to row) = inr (λ same. absurd cc)
is_commit (call.SelectAsOf to row n) = inr (λ same. absurd cc)
is_commit (call.Assign to from) = inr (λ same. absurd cc)
is_commit (call.Free at) = inr (λ same. absurd cc)
is_commit (call.Length at) = inr (λ same. absurd cc)
is_commit (call.Read at amount offset) = inr (λ same. absurd cc)
is_commit (call.Instr at pattern offset) = inr (λ same. absurd cc)
is_commit (call.Compare left right amount left_offset right_offset) = inr (λ same. absurd cc)
is_commit (call.Write at offset buffer) = inr (λ same. absurd cc)
is_commit (call.WriteAppend at buffer) = inr (λ same. absurd cc)
is_commit (call.Append at from) = inr (λ same. absurd cc)
is_commit (call.Copy at from amount to_offset from_offset) = inr (λ same. absurd cc)
is_commit (call.Erase at amount offset) = inr (λ same. absurd cc)
is_commit (call.Trim at size) = inr (λ same. absurd cc)
is_commit (call.FragInsert at offset buffer) = inr (λ same. absurd cc)
is_commit (call.FragDelete at amount offset) = inr (λ same. absurd cc)
is_commit (call.FragMove at amount from_offset to_offset) = inr (λ same. absurd cc)
is_commit (call.FragReplace at old_amount offset buffer) = inr (λ same. absurd cc)
is_commit (call.SetOptions at share) = inr (λ same. absurd cc)
is_commit (call.Savepoint name) = inr (λ same. absurd cc)
is_commit (call.RollbackTo name) = inr (λ same. absurd cc)
is_commit call.Commit = inl refl
is_commit call.Rollback = inr (λ same. absurd cc)
is_commit call.End = inr (λ same. absurd cc)

-- A due call that writes nothing is a Commit.
pub due_commit : (gather : ℕ) (o : Own) (c : Call) (p : Prepared) → own_due gather o c ≡ true → IsPrepared o c p → ((w : Written) → p ≡ prepared.Written w → ⊥) → c ≡ call.Commit
due_commit gather o c p due is apart =
    elim (is_commit c) [
      | inl same ↦ same
      | inr other ↦ absurd (let bad : false ≡ true = sym (unfull p apart) ∙ due_prepared gather o c p other is ∙ due in cc)
    ]
  where
    unfull : (p : Prepared) → ((w : Written) → p ≡ prepared.Written w → ⊥) → is_full gather p ≡ false
    unfull prepared.Nothing apart = refl
    unfull (prepared.Row name value) apart = refl
    unfull (prepared.Restored rows) apart = refl
    unfull (prepared.Refused fault) apart = refl
    unfull (prepared.Written w) apart = absurd (apart w refl)

-- What a writing call flushes is its result.
pub flush_by : (o : Own) (c : Call) (at : List ℕ) → written_name c ≡ Some at → own_flush o c ≡ (own_row o at, Some (result_of o.part (held_value o (own_row o at)) at c)) ∷ []
flush_by o (call.Insert row) written_at is = absurd cc
flush_by o (call.Delete row) written_at is = absurd cc
flush_by o (call.Lock to row) written_at is = absurd cc
flush_by o (call.Select to row) written_at is = absurd cc
flush_by o (call.SelectAsOf to row n) written_at is = absurd cc
flush_by o (call.Assign to from) written_at is = absurd cc
flush_by o (call.Free at) written_at is = absurd cc
flush_by o (call.Length at) written_at is = absurd cc
flush_by o (call.Read at amount offset) written_at is = absurd cc
flush_by o (call.Instr at pattern offset) written_at is = absurd cc
flush_by o (call.Compare left right amount left_offset right_offset) written_at is = absurd cc
flush_by o (call.Write at offset buffer) written_at is = ap (λ m. option_map_or (λ at. (own_row o at, Some (result_of o.part (held_value o (own_row o at)) at (call.Write at offset buffer))) ∷ []) m []) is
flush_by o (call.WriteAppend at buffer) written_at is = ap (λ m. option_map_or (λ at. (own_row o at, Some (result_of o.part (held_value o (own_row o at)) at (call.WriteAppend at buffer))) ∷ []) m []) is
flush_by o (call.Append at from) written_at is = ap (λ m. option_map_or (λ at. (own_row o at, Some (result_of o.part (held_value o (own_row o at)) at (call.Append at from))) ∷ []) m []) is
flush_by o (call.Copy at from amount to_offset from_offset) written_at is = ap (λ m. option_map_or (λ at. (own_row o at, Some (result_of o.part (held_value o (own_row o at)) at (call.Copy at from amount to_offset from_offset))) ∷ []) m []) is
flush_by o (call.Erase at amount offset) written_at is = ap (λ m. option_map_or (λ at. (own_row o at, Some (result_of o.part (held_value o (own_row o at)) at (call.Erase at amount offset))) ∷ []) m []) is
flush_by o (call.Trim at size) written_at is = ap (λ m. option_map_or (λ at. (own_row o at, Some (result_of o.part (held_value o (own_row o at)) at (call.Trim at size))) ∷ []) m []) is
flush_by o (call.FragInsert at offset buffer) written_at is = ap (λ m. option_map_or (λ at. (own_row o at, Some (result_of o.part (held_value o (own_row o at)) at (call.FragInsert at offset buffer))) ∷ []) m []) is
flush_by o (call.FragDelete at amount offset) written_at is = ap (λ m. option_map_or (λ at. (own_row o at, Some (result_of o.part (held_value o (own_row o at)) at (call.FragDelete at amount offset))) ∷ []) m []) is
flush_by o (call.FragMove at amount from_offset to_offset) written_at is = ap (λ m. option_map_or (λ at. (own_row o at, Some (result_of o.part (held_value o (own_row o at)) at (call.FragMove at amount from_offset to_offset))) ∷ []) m []) is
flush_by o (call.FragReplace at old_amount offset buffer) written_at is = ap (λ m. option_map_or (λ at. (own_row o at, Some (result_of o.part (held_value o (own_row o at)) at (call.FragReplace at old_amount offset buffer))) ∷ []) m []) is
flush_by o (call.SetOptions at share) written_at is = ap (λ m. option_map_or (λ at. (own_row o at, Some (result_of o.part (held_value o (own_row o at)) at (call.SetOptions at share))) ∷ []) m []) is
flush_by o (call.Savepoint name) written_at is = absurd cc
flush_by o (call.RollbackTo name) written_at is = absurd cc
flush_by o call.Commit written_at is = absurd cc
flush_by o call.Rollback written_at is = absurd cc
flush_by o call.End written_at is = absurd cc

result_by : (o : Own) (c : Call) (name : Option (List ℕ)) (w : Written) → written_name c ≡ name → IsPreparedWrite o c name (prepared.Written w) → IsResult o c w
result_by o c None w named is = absurd is
result_by o c (Some at) w named is =
    let same : w.at ≡ at = ap (λ (v : Written). v.at) is.1 in
    record {
      name = named ∙ ap (λ (n : List ℕ). Some n) (sym same);
      unrefused = ap (λ n. write_refusal o n c) same ∙ is.0;
      same = is.1 ∙ ap (λ n. written o n c) (sym same);
    }

pub result_is : (o : Own) (c : Call) (w : Written) → IsPrepared o c (prepared.Written w) → IsResult o c w
result_is o (call.Insert row) w is = absurd is
result_is o (call.Delete row) w is = absurd is
result_is o (call.Lock to row) w is = absurd is
result_is o (call.Select to row) w is = absurd is
result_is o (call.SelectAsOf to row n) w is = result_by o (call.SelectAsOf to row n) (written_name (call.SelectAsOf to row n)) w refl is
result_is o (call.Assign to from) w is = result_by o (call.Assign to from) (written_name (call.Assign to from)) w refl is
result_is o (call.Free at) w is = result_by o (call.Free at) (written_name (call.Free at)) w refl is
result_is o (call.Length at) w is = result_by o (call.Length at) (written_name (call.Length at)) w refl is
result_is o (call.Read at amount offset) w is = result_by o (call.Read at amount offset) (written_name (call.Read at amount offset)) w refl is
result_is o (call.Instr at pattern offset) w is = result_by o (call.Instr at pattern offset) (written_name (call.Instr at pattern offset)) w refl is
result_is o (call.Compare left right amount left_offset right_offset) w is = result_by o (call.Compare left right amount left_offset right_offset) (written_name (call.Compare left right amount left_offset right_offset)) w refl is
result_is o (call.Write at offset buffer) w is = result_by o (call.Write at offset buffer) (written_name (call.Write at offset buffer)) w refl is
result_is o (call.WriteAppend at buffer) w is = result_by o (call.WriteAppend at buffer) (written_name (call.WriteAppend at buffer)) w refl is
result_is o (call.Append at from) w is = result_by o (call.Append at from) (written_name (call.Append at from)) w refl is
result_is o (call.Copy at from amount to_offset from_offset) w is = result_by o (call.Copy at from amount to_offset from_offset) (written_name (call.Copy at from amount to_offset from_offset)) w refl is
result_is o (call.Erase at amount offset) w is = result_by o (call.Erase at amount offset) (written_name (call.Erase at amount offset)) w refl is
result_is o (call.Trim at size) w is = result_by o (call.Trim at size) (written_name (call.Trim at size)) w refl is
result_is o (call.FragInsert at offset buffer) w is = result_by o (call.FragInsert at offset buffer) (written_name (call.FragInsert at offset buffer)) w refl is
result_is o (call.FragDelete at amount offset) w is = result_by o (call.FragDelete at amount offset) (written_name (call.FragDelete at amount offset)) w refl is
result_is o (call.FragMove at amount from_offset to_offset) w is = result_by o (call.FragMove at amount from_offset to_offset) (written_name (call.FragMove at amount from_offset to_offset)) w refl is
result_is o (call.FragReplace at old_amount offset buffer) w is = result_by o (call.FragReplace at old_amount offset buffer) (written_name (call.FragReplace at old_amount offset buffer)) w refl is
result_is o (call.SetOptions at share) w is = result_by o (call.SetOptions at share) (written_name (call.SetOptions at share)) w refl is
result_is o (call.Savepoint name) w is = result_by o (call.Savepoint name) (written_name (call.Savepoint name)) w refl is
result_is o (call.RollbackTo name) w is = absurd is
result_is o call.Commit w is = result_by o call.Commit (written_name call.Commit) w refl is
result_is o call.Rollback w is = result_by o call.Rollback (written_name call.Rollback) w refl is
result_is o call.End w is = result_by o call.End (written_name call.End) w refl is

-- The cuts of a writing call's result are those of what it flushes.
pub result_cuts : (options : Options) (o : Own) (c : Call) (w : Written) → IsPrepared o c (prepared.Written w) → cuts_of_value options w.map ≡ cuts options (own_flush o c)
result_cuts options o c w is =
    let result = result_is o c w is in
    ap (λ (v : Written). cuts_of_value options v.map) result.same
    ∙ sym (ap (cuts options) (flush_by o c w.at result.name) ∙ append-nil (cuts_of_value options (result_of o.part (held_value o (own_row o w.at)) w.at c)))

-- The request of a writing call is its result.
request_by : (o : Own) (c : Call) (at : List ℕ) → written_name c ≡ Some at → request_of o c ≡ Settles (result_of o.part (held_value o (own_row o at)) at c)
request_by o (call.Insert row) written_at is = absurd cc
request_by o (call.Delete row) written_at is = absurd cc
request_by o (call.Lock to row) written_at is = absurd cc
request_by o (call.Select to row) written_at is = absurd cc
request_by o (call.SelectAsOf to row n) written_at is = absurd cc
request_by o (call.Assign to from) written_at is = absurd cc
request_by o (call.Free at) written_at is = absurd cc
request_by o (call.Length at) written_at is = absurd cc
request_by o (call.Read at amount offset) written_at is = absurd cc
request_by o (call.Instr at pattern offset) written_at is = absurd cc
request_by o (call.Compare left right amount left_offset right_offset) written_at is = absurd cc
request_by o (call.Write at offset buffer) written_at is = ap (λ m. option_map_or (λ at. Settles (result_of o.part (held_value o (own_row o at)) at (call.Write at offset buffer))) m Working) is
request_by o (call.WriteAppend at buffer) written_at is = ap (λ m. option_map_or (λ at. Settles (result_of o.part (held_value o (own_row o at)) at (call.WriteAppend at buffer))) m Working) is
request_by o (call.Append at from) written_at is = ap (λ m. option_map_or (λ at. Settles (result_of o.part (held_value o (own_row o at)) at (call.Append at from))) m Working) is
request_by o (call.Copy at from amount to_offset from_offset) written_at is = ap (λ m. option_map_or (λ at. Settles (result_of o.part (held_value o (own_row o at)) at (call.Copy at from amount to_offset from_offset))) m Working) is
request_by o (call.Erase at amount offset) written_at is = ap (λ m. option_map_or (λ at. Settles (result_of o.part (held_value o (own_row o at)) at (call.Erase at amount offset))) m Working) is
request_by o (call.Trim at size) written_at is = ap (λ m. option_map_or (λ at. Settles (result_of o.part (held_value o (own_row o at)) at (call.Trim at size))) m Working) is
request_by o (call.FragInsert at offset buffer) written_at is = ap (λ m. option_map_or (λ at. Settles (result_of o.part (held_value o (own_row o at)) at (call.FragInsert at offset buffer))) m Working) is
request_by o (call.FragDelete at amount offset) written_at is = ap (λ m. option_map_or (λ at. Settles (result_of o.part (held_value o (own_row o at)) at (call.FragDelete at amount offset))) m Working) is
request_by o (call.FragMove at amount from_offset to_offset) written_at is = ap (λ m. option_map_or (λ at. Settles (result_of o.part (held_value o (own_row o at)) at (call.FragMove at amount from_offset to_offset))) m Working) is
request_by o (call.FragReplace at old_amount offset buffer) written_at is = ap (λ m. option_map_or (λ at. Settles (result_of o.part (held_value o (own_row o at)) at (call.FragReplace at old_amount offset buffer))) m Working) is
request_by o (call.SetOptions at share) written_at is = ap (λ m. option_map_or (λ at. Settles (result_of o.part (held_value o (own_row o at)) at (call.SetOptions at share))) m Working) is
request_by o (call.Savepoint name) written_at is = absurd cc
request_by o (call.RollbackTo name) written_at is = absurd cc
request_by o call.Commit written_at is = absurd cc
request_by o call.Rollback written_at is = absurd cc
request_by o call.End written_at is = absurd cc

pub result_request : (o : Own) (c : Call) (w : Written) (map : Value) → IsResult o c w → map ≡ w.map → Settles map ≡ request_of o c
result_request o c w map result same =
    ap Settles same ∙ ap (λ (v : Written). Settles v.map) result.same ∙ sym (request_by o c w.at result.name)

-- The session knows no refusal of a due call.
due_request : (gather : ℕ) (o : Own) (c : Call) (fault : Fault) → own_due gather o c ≡ true → request_of o c ≡ Known fault → ⊥
due_request gather o (call.Insert row) fault due is = absurd (let bad : false ≡ true = due in cc)
due_request gather o (call.Delete row) fault due is = absurd (let bad : false ≡ true = due in cc)
due_request gather o (call.Lock to row) fault due is = absurd (let bad : false ≡ true = due in cc)
due_request gather o (call.Select to row) fault due is = absurd (let bad : false ≡ true = due in cc)
due_request gather o (call.SelectAsOf to row n) fault due is = absurd (let bad : false ≡ true = due in cc)
due_request gather o (call.Assign to from) fault due is = absurd (let bad : false ≡ true = due in cc)
due_request gather o (call.Free at) fault due is = absurd (let bad : false ≡ true = due in cc)
due_request gather o (call.Length at) fault due is = absurd (let bad : false ≡ true = due in cc)
due_request gather o (call.Read at amount offset) fault due is = absurd (let bad : false ≡ true = due in cc)
due_request gather o (call.Instr at pattern offset) fault due is = absurd (let bad : false ≡ true = due in cc)
due_request gather o (call.Compare left right amount left_offset right_offset) fault due is = absurd (let bad : false ≡ true = due in cc)
due_request gather o (call.Write at offset buffer) fault due is = absurd cc
due_request gather o (call.WriteAppend at buffer) fault due is = absurd cc
due_request gather o (call.Append at from) fault due is = absurd cc
due_request gather o (call.Copy at from amount to_offset from_offset) fault due is = absurd cc
due_request gather o (call.Erase at amount offset) fault due is = absurd cc
due_request gather o (call.Trim at size) fault due is = absurd cc
due_request gather o (call.FragInsert at offset buffer) fault due is = absurd cc
due_request gather o (call.FragDelete at amount offset) fault due is = absurd cc
due_request gather o (call.FragMove at amount from_offset to_offset) fault due is = absurd cc
due_request gather o (call.FragReplace at old_amount offset buffer) fault due is = absurd cc
due_request gather o (call.SetOptions at share) fault due is = absurd cc
due_request gather o (call.Savepoint name) fault due is = absurd (let bad : false ≡ true = due in cc)
due_request gather o (call.RollbackTo name) fault due is = absurd (let bad : false ≡ true = due in cc)
due_request gather o call.Commit fault due is = absurd cc
due_request gather o call.Rollback fault due is = absurd (let bad : false ≡ true = due in cc)
due_request gather o call.End fault due is = absurd (let bad : false ≡ true = due in cc)

pub due_unknown : (gather : ℕ) (o : Own) (c : Call) → own_due gather o c ≡ true → IsKnown o c → ⊥
due_unknown gather o c due known = due_request gather o c known.fault due known.known

-- An answer that is a refusal by the rules is one.
pub refusing : (answer : Answer) (fault : Fault) → IsAnswer answer (Refused fault) → IsRefusing answer
refusing (answer.Refused other) fault is = tt
refusing answer.Done fault is = absurd cc
refusing (answer.Value map twin) fault is = absurd (let bad = is.0 in cc)
refusing (answer.Committed number) fault is = absurd cc
refusing answer.Ended fault is = absurd cc

-- The call that stands.
pub stands : (gather : ℕ) (o : Roomy Own) (room : ℕ) (phase : Phase) (found : Option Standing) (s : Standing) → found ≡ Some s → IsStanding gather o room phase found → CanEnd gather o room phase s
stands gather o room phase None s is holds = absurd cc
stands gather o room phase (Some t) s is holds = let same : t ≡ s = cc in subst (CanEnd gather o room phase) same holds

phase_due : (due : Bool) (phase : Phase) → (phase ≡ Unpromised → ⊥) → IsPhase due phase → due ≡ true
phase_due due Unpromised apart is = absurd (apart refl)
phase_due due (Promised blocks) apart is = is
phase_due due (Collected blocks) apart is = is

-- A call with a promise is due.
pub due_where : (gather : ℕ) (o : Roomy Own) (room : ℕ) (phase : Phase) (s : Standing) → CanEnd gather o room phase s → (phase ≡ Unpromised → ⊥) → own_due gather o.held s.call ≡ true
due_where gather o room phase s can apart = sym can.due ∙ phase_due s.is_due phase apart can.phase_is

-- No call stands where none is seen.
pub none_stands : (found : Option Standing) → option_map (λ s. s.call) found ≡ None → found ≡ None
none_stands None is = refl
none_stands (Some s) is = absurd cc
