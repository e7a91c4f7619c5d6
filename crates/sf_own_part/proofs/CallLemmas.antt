-- Calls by their kinds: what the end of each needs, and its reply.
use Rattle.std.proofs.Common.{◌≡◌, ℕ, Bool, true, false, cond, List, Option, Some, None, refl, sym, ap, ◌∙◌}
use Rattle.std.specs.Prelude.{is_none, unwrap_or, filter}
use Rattle.std.specs.List.{list_any}
use Rattle.sf_types.specs.declared.reply.Fault.TheVariants as fault
use Rattle.sf_types.specs.declared.reply.Reply.TheVariants as reply
use Rattle.sf_types.specs.Inside.NameMaps.{get, is_same_name}
use Rattle.sf_types.specs.Table.Parts.{Rows, Savepoint}
use Rattle.sf_types.specs.Table.Sessions.{lacks_room}
use Rattle.sf_types.specs.Calls.Savepoints.{savepoint_named, no_savepoint, after_rollback_to}
use Rattle.sf_types.specs.Halves.Asks.{Known, Current, Unlock, request_by_working, rows_to_unlock, after_done, after_value}
use Rattle.sf_types.specs.declared.call.Call.{Call}
use Rattle.sf_types.specs.declared.call.Call.TheVariants as call
use Rattle.sf_types.specs.Values.Marks.{Value}
use Rattle.sf_types.specs.Calls.WritingCalls.{written_name, write_reply}
use Rattle.sf_types.specs.Halves.Own.{Own, is_event}
use Rattle.sf_own_part.specs.declared.answers.Prepared.{Prepared}
use Rattle.sf_own_part.specs.Ends.{IsPreparedWrite, IsPrepared, IsKnown}
use Rattle.sf_own_part.specs.Inside.Sources.{after_written}
use Rattle.sf_own_part.specs.OwnWrites.{write_number, reply_by_number}

-- What a call that is no event needs is what a writing call needs, or nothing.
pub prepared_write : (o : Own) (c : Call) (p : Prepared) → is_event c ≡ false → IsPreparedWrite o c (written_name c) p → IsPrepared o c p
prepared_write o (call.Insert row) p event is = absurd cc
prepared_write o (call.Delete row) p event is = absurd cc
prepared_write o (call.Lock to row) p event is = absurd cc
prepared_write o (call.Select to row) p event is = absurd cc
prepared_write o (call.SelectAsOf to row n) p event is = absurd cc
prepared_write o (call.Assign to from) p event is = is
prepared_write o (call.Free at) p event is = is
prepared_write o (call.Length at) p event is = is
prepared_write o (call.Read at amount offset) p event is = is
prepared_write o (call.Instr at pattern offset) p event is = is
prepared_write o (call.Compare left right amount left_offset right_offset) p event is = is
prepared_write o (call.Write at offset buffer) p event is = is
prepared_write o (call.WriteAppend at buffer) p event is = is
prepared_write o (call.Append at from) p event is = is
prepared_write o (call.Copy at from amount to_offset from_offset) p event is = is
prepared_write o (call.Erase at amount offset) p event is = is
prepared_write o (call.Trim at size) p event is = is
prepared_write o (call.FragInsert at offset buffer) p event is = is
prepared_write o (call.FragDelete at amount offset) p event is = is
prepared_write o (call.FragMove at amount from_offset to_offset) p event is = is
prepared_write o (call.FragReplace at old_amount offset buffer) p event is = is
prepared_write o (call.SetOptions at share) p event is = is
prepared_write o (call.Savepoint name) p event is = is
prepared_write o (call.RollbackTo name) p event is = absurd cc
prepared_write o call.Commit p event is = absurd cc
prepared_write o call.Rollback p event is = absurd cc
prepared_write o call.End p event is = absurd cc

-- The number that a writing call answers tells its reply.
pub number_tells : (c : Call) (value : Value) → reply_by_number (write_number c value) ≡ write_reply c value
number_tells (call.Insert row) value = refl
number_tells (call.Delete row) value = refl
number_tells (call.Lock to row) value = refl
number_tells (call.Select to row) value = refl
number_tells (call.SelectAsOf to row n) value = refl
number_tells (call.Assign to from) value = refl
number_tells (call.Free at) value = refl
number_tells (call.Length at) value = refl
number_tells (call.Read at amount offset) value = refl
number_tells (call.Instr at pattern offset) value = refl
number_tells (call.Compare left right amount left_offset right_offset) value = refl
number_tells (call.Write at offset buffer) value = refl
number_tells (call.WriteAppend at buffer) value = refl
number_tells (call.Append at from) value = refl
number_tells (call.Copy at from amount to_offset from_offset) value = refl
number_tells (call.Erase at amount offset) value = refl
number_tells (call.Trim at size) value = refl
number_tells (call.FragInsert at offset buffer) value = refl
number_tells (call.FragDelete at amount offset) value = refl
number_tells (call.FragMove at amount from_offset to_offset) value = refl
number_tells (call.FragReplace at old_amount offset buffer) value = refl
number_tells (call.SetOptions at share) value = refl
number_tells (call.Savepoint name) value = refl
number_tells (call.RollbackTo name) value = refl
number_tells call.Commit value = refl
number_tells call.Rollback value = refl
number_tells call.End value = refl

-- What is known to be refused is refused: so there is room for the locator of a call that isn't, and a savepoint.
abbrev roomy : Own → List ℕ → Call → Type 0
roomy o to c = (IsKnown o c → ⊥) → lacks_room o.part to ≡ false

pub lock_room : (o : Own) (to row : List ℕ) → roomy o to (call.Lock to row)
lock_room o to row open_ = by_room (lacks_room o.part to) refl
  where
    by_room : (b : Bool) → lacks_room o.part to ≡ b → b ≡ false
    by_room true is = absurd (open_ (record { fault = fault.TooManyLocators; known = ap (λ b. cond b (Known fault.TooManyLocators) (request_by_working (get o.part.working row) is_none fault.NoSuchRow)) is }))
    by_room false is = refl

pub select_room : (o : Own) (to row : List ℕ) → roomy o to (call.Select to row)
select_room o to row open_ = by_room (lacks_room o.part to) refl
  where
    by_room : (b : Bool) → lacks_room o.part to ≡ b → b ≡ false
    by_room true is = absurd (open_ (record { fault = fault.TooManyLocators; known = ap (λ b. cond b (Known fault.TooManyLocators) (request_by_working (get o.part.working row) is_none fault.NoSuchRow)) is }))
    by_room false is = refl

pub select_as_of_room : (o : Own) (to row : List ℕ) (n : ℕ) → roomy o to (call.SelectAsOf to row n)
select_as_of_room o to row n open_ = by_room (lacks_room o.part to) refl
  where
    by_room : (b : Bool) → lacks_room o.part to ≡ b → b ≡ false
    by_room true is = absurd (open_ (record { fault = fault.TooManyLocators; known = ap (λ b. cond b (Known fault.TooManyLocators) Current) is }))
    by_room false is = refl

pub restored_end : (o : Own) (name : List ℕ) (after : Own) (rows : Rows) → (IsKnown o (call.RollbackTo name) → ⊥) → rows ≡ (unwrap_or (savepoint_named o.part name) no_savepoint).working
    → ((x : Savepoint) → savepoint_named o.part name ≡ Some x → rows ≡ x.working → after ≡ record { part = after_rollback_to o.part x; rows = filter (λ e. list_any (is_same_name e.0) x.locked) o.rows })
    → after ≡ (after_done o (call.RollbackTo name)).0
restored_end o name after rows open_ restored goes_on = by_found (savepoint_named o.part name) refl
  where
    own_end : Own → Savepoint → Own
    own_end o x = record { part = after_rollback_to o.part x; rows = filter (λ e. list_any (is_same_name e.0) x.locked) o.rows }

    by_found : (found : Option Savepoint) → savepoint_named o.part name ≡ found → after ≡ (after_done o (call.RollbackTo name)).0
    by_found None is = absurd (open_ (record { fault = fault.NoSavepoint; known = ap (λ (f : Option Savepoint). cond (is_none f) (Known fault.NoSavepoint) (Unlock (rows_to_unlock o name))) is }))
    by_found (Some x) is =
        goes_on x is (restored ∙ ap (λ (f : Option Savepoint). (unwrap_or f no_savepoint).working) is)
        ∙ ap (λ (f : Option Savepoint). own_end o (unwrap_or f no_savepoint)) (sym is)

-- A call that is none of those that the answer Done changes leaves the own part.
pub other_done : (o : Own) (c : Call) → ((row : List ℕ) → c ≡ call.Insert row → ⊥) → ((row : List ℕ) → c ≡ call.Delete row → ⊥) → ((to row : List ℕ) → c ≡ call.Lock to row → ⊥)
    → ((to row : List ℕ) → c ≡ call.Select to row → ⊥) → ((name : List ℕ) → c ≡ call.RollbackTo name → ⊥) → (c ≡ call.Rollback → ⊥) → o ≡ (after_done o c).0
other_done o (call.Insert row) hi hd hl hs hb hr = absurd (hi row refl)
other_done o (call.Delete row) hi hd hl hs hb hr = absurd (hd row refl)
other_done o (call.Lock to row) hi hd hl hs hb hr = absurd (hl to row refl)
other_done o (call.Select to row) hi hd hl hs hb hr = absurd (hs to row refl)
other_done o (call.SelectAsOf to row n) hi hd hl hs hb hr = refl
other_done o (call.Assign to from) hi hd hl hs hb hr = refl
other_done o (call.Free at) hi hd hl hs hb hr = refl
other_done o (call.Length at) hi hd hl hs hb hr = refl
other_done o (call.Read at amount offset) hi hd hl hs hb hr = refl
other_done o (call.Instr at pattern offset) hi hd hl hs hb hr = refl
other_done o (call.Compare left right amount left_offset right_offset) hi hd hl hs hb hr = refl
other_done o (call.Write at offset buffer) hi hd hl hs hb hr = refl
other_done o (call.WriteAppend at buffer) hi hd hl hs hb hr = refl
other_done o (call.Append at from) hi hd hl hs hb hr = refl
other_done o (call.Copy at from amount to_offset from_offset) hi hd hl hs hb hr = refl
other_done o (call.Erase at amount offset) hi hd hl hs hb hr = refl
other_done o (call.Trim at size) hi hd hl hs hb hr = refl
other_done o (call.FragInsert at offset buffer) hi hd hl hs hb hr = refl
other_done o (call.FragDelete at amount offset) hi hd hl hs hb hr = refl
other_done o (call.FragMove at amount from_offset to_offset) hi hd hl hs hb hr = refl
other_done o (call.FragReplace at old_amount offset buffer) hi hd hl hs hb hr = refl
other_done o (call.SetOptions at share) hi hd hl hs hb hr = refl
other_done o (call.Savepoint name) hi hd hl hs hb hr = refl
other_done o (call.RollbackTo name) hi hd hl hs hb hr = absurd (hb name refl)
other_done o call.Commit hi hd hl hs hb hr = refl
other_done o call.Rollback hi hd hl hs hb hr = absurd (hr refl)
other_done o call.End hi hd hl hs hb hr = refl

pub done_reply : (o : Own) (c : Call) → (after_done o c).1 ≡ reply.Done
done_reply o (call.Insert row) = refl
done_reply o (call.Delete row) = refl
done_reply o (call.Lock to row) = refl
done_reply o (call.Select to row) = refl
done_reply o (call.SelectAsOf to row n) = refl
done_reply o (call.Assign to from) = refl
done_reply o (call.Free at) = refl
done_reply o (call.Length at) = refl
done_reply o (call.Read at amount offset) = refl
done_reply o (call.Instr at pattern offset) = refl
done_reply o (call.Compare left right amount left_offset right_offset) = refl
done_reply o (call.Write at offset buffer) = refl
done_reply o (call.WriteAppend at buffer) = refl
done_reply o (call.Append at from) = refl
done_reply o (call.Copy at from amount to_offset from_offset) = refl
done_reply o (call.Erase at amount offset) = refl
done_reply o (call.Trim at size) = refl
done_reply o (call.FragInsert at offset buffer) = refl
done_reply o (call.FragDelete at amount offset) = refl
done_reply o (call.FragMove at amount from_offset to_offset) = refl
done_reply o (call.FragReplace at old_amount offset buffer) = refl
done_reply o (call.SetOptions at share) = refl
done_reply o (call.Savepoint name) = refl
done_reply o (call.RollbackTo name) = refl
done_reply o call.Commit = refl
done_reply o call.Rollback = refl
done_reply o call.End = refl

-- A call that is no row call by a name and no RollbackTo needs what a writing call needs, or nothing.
pub write_prepared : (o : Own) (c : Call) (p : Prepared) → ((row : List ℕ) → c ≡ call.Insert row → ⊥) → ((row : List ℕ) → c ≡ call.Delete row → ⊥) → ((to row : List ℕ) → c ≡ call.Lock to row → ⊥)
    → ((to row : List ℕ) → c ≡ call.Select to row → ⊥) → ((name : List ℕ) → c ≡ call.RollbackTo name → ⊥) → IsPrepared o c p → IsPreparedWrite o c (written_name c) p
write_prepared o (call.Insert row) p hi hd hl hs hb is = absurd (hi row refl)
write_prepared o (call.Delete row) p hi hd hl hs hb is = absurd (hd row refl)
write_prepared o (call.Lock to row) p hi hd hl hs hb is = absurd (hl to row refl)
write_prepared o (call.Select to row) p hi hd hl hs hb is = absurd (hs to row refl)
write_prepared o (call.SelectAsOf to row n) p hi hd hl hs hb is = is
write_prepared o (call.Assign to from) p hi hd hl hs hb is = is
write_prepared o (call.Free at) p hi hd hl hs hb is = is
write_prepared o (call.Length at) p hi hd hl hs hb is = is
write_prepared o (call.Read at amount offset) p hi hd hl hs hb is = is
write_prepared o (call.Instr at pattern offset) p hi hd hl hs hb is = is
write_prepared o (call.Compare left right amount left_offset right_offset) p hi hd hl hs hb is = is
write_prepared o (call.Write at offset buffer) p hi hd hl hs hb is = is
write_prepared o (call.WriteAppend at buffer) p hi hd hl hs hb is = is
write_prepared o (call.Append at from) p hi hd hl hs hb is = is
write_prepared o (call.Copy at from amount to_offset from_offset) p hi hd hl hs hb is = is
write_prepared o (call.Erase at amount offset) p hi hd hl hs hb is = is
write_prepared o (call.Trim at size) p hi hd hl hs hb is = is
write_prepared o (call.FragInsert at offset buffer) p hi hd hl hs hb is = is
write_prepared o (call.FragDelete at amount offset) p hi hd hl hs hb is = is
write_prepared o (call.FragMove at amount from_offset to_offset) p hi hd hl hs hb is = is
write_prepared o (call.FragReplace at old_amount offset buffer) p hi hd hl hs hb is = is
write_prepared o (call.SetOptions at share) p hi hd hl hs hb is = is
write_prepared o (call.Savepoint name) p hi hd hl hs hb is = is
write_prepared o (call.RollbackTo name) p hi hd hl hs hb is = absurd (hb name refl)
write_prepared o call.Commit p hi hd hl hs hb is = is
write_prepared o call.Rollback p hi hd hl hs hb is = is
write_prepared o call.End p hi hd hl hs hb is = is

-- A given value of a call that is no row call is a writing call's.
pub given_written : (o : Own) (c : Call) (v : Value) → ((row : List ℕ) → c ≡ call.Delete row → ⊥) → ((to row : List ℕ) → c ≡ call.Lock to row → ⊥)
    → ((to row : List ℕ) → c ≡ call.Select to row → ⊥) → ((to row : List ℕ) (n : ℕ) → c ≡ call.SelectAsOf to row n → ⊥) → after_written o c v ≡ after_value o c v
given_written o (call.Insert row) v hd hl hs ha = refl
given_written o (call.Delete row) v hd hl hs ha = absurd (hd row refl)
given_written o (call.Lock to row) v hd hl hs ha = absurd (hl to row refl)
given_written o (call.Select to row) v hd hl hs ha = absurd (hs to row refl)
given_written o (call.SelectAsOf to row n) v hd hl hs ha = absurd (ha to row n refl)
given_written o (call.Assign to from) v hd hl hs ha = refl
given_written o (call.Free at) v hd hl hs ha = refl
given_written o (call.Length at) v hd hl hs ha = refl
given_written o (call.Read at amount offset) v hd hl hs ha = refl
given_written o (call.Instr at pattern offset) v hd hl hs ha = refl
given_written o (call.Compare left right amount left_offset right_offset) v hd hl hs ha = refl
given_written o (call.Write at offset buffer) v hd hl hs ha = refl
given_written o (call.WriteAppend at buffer) v hd hl hs ha = refl
given_written o (call.Append at from) v hd hl hs ha = refl
given_written o (call.Copy at from amount to_offset from_offset) v hd hl hs ha = refl
given_written o (call.Erase at amount offset) v hd hl hs ha = refl
given_written o (call.Trim at size) v hd hl hs ha = refl
given_written o (call.FragInsert at offset buffer) v hd hl hs ha = refl
given_written o (call.FragDelete at amount offset) v hd hl hs ha = refl
given_written o (call.FragMove at amount from_offset to_offset) v hd hl hs ha = refl
given_written o (call.FragReplace at old_amount offset buffer) v hd hl hs ha = refl
given_written o (call.SetOptions at share) v hd hl hs ha = refl
given_written o (call.Savepoint name) v hd hl hs ha = refl
given_written o (call.RollbackTo name) v hd hl hs ha = refl
given_written o call.Commit v hd hl hs ha = refl
given_written o call.Rollback v hd hl hs ha = refl
given_written o call.End v hd hl hs ha = refl
