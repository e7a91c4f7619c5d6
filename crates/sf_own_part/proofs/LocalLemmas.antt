-- Calls that are due, by what is prepared for their end.
use Rattle.std.proofs.Common.{◌≡◌, ℕ, Bool, false, List, Option, Some, None, refl, ap}
use Rattle.std.specs.Prelude.{nat_le}
use Rattle.std.specs.Option.{option_map_or}
use Rattle.sf_types.specs.declared.call.Call.{Call}
use Rattle.sf_types.specs.declared.call.Call.TheVariants as call
use Rattle.sf_types.specs.Values.Marks.{fresh_count}
use Rattle.sf_types.specs.Calls.WritingCalls.{written_name}
use Rattle.sf_types.specs.Halves.Own.{Own, own_due, own_write_due}
use Rattle.sf_own_part.specs.declared.answers.Prepared.{Prepared}
use Rattle.sf_own_part.specs.declared.answers.Prepared.TheVariants as prepared
use Rattle.sf_own_part.specs.Ends.{IsPrepared, IsPreparedWrite}

-- Whether what is prepared is a result with as many fresh bytes.
abbrev pub is_full : ℕ → Prepared → Bool
is_full gather (prepared.Written w) = nat_le gather (fresh_count w.map)
is_full gather _ = false

due_write : (gather : ℕ) (o : Own) (c : Call) (name : Option (List ℕ)) (p : Prepared) → IsPreparedWrite o c name p → is_full gather p ≡ option_map_or (λ at. own_write_due gather o at c) name false
due_write gather o c None prepared.Nothing is = refl
due_write gather o c None (prepared.Row name map) is = absurd is
due_write gather o c None (prepared.Restored rows) is = absurd is
due_write gather o c None (prepared.Refused fault) is = absurd is
due_write gather o c None (prepared.Written w) is = absurd is
due_write gather o c (Some at) prepared.Nothing is = absurd is
due_write gather o c (Some at) (prepared.Row name map) is = absurd is
due_write gather o c (Some at) (prepared.Restored rows) is = absurd is
due_write gather o c (Some at) (prepared.Refused fault) is = rw is refl
due_write gather o c (Some at) (prepared.Written w) is = rw is.0 (ap (λ v. nat_le gather (fresh_count v.map)) is.1)

-- Whether a call other than Commit is due, by what is prepared for its end.
pub due_prepared : (gather : ℕ) (o : Own) (c : Call) (p : Prepared) → (c ≡ call.Commit → ⊥) → IsPrepared o c p → is_full gather p ≡ own_due gather o c
due_prepared gather o (call.Insert row) prepared.Nothing other_ is = refl
due_prepared gather o (call.Insert row) (prepared.Row other value) other_ is = refl
due_prepared gather o (call.Insert row) (prepared.Restored rows) other_ is = refl
due_prepared gather o (call.Insert row) (prepared.Refused fault) other_ is = refl
due_prepared gather o (call.Insert row) (prepared.Written w) other_ is = absurd is
due_prepared gather o (call.Delete row) prepared.Nothing other_ is = refl
due_prepared gather o (call.Delete row) (prepared.Row other value) other_ is = refl
due_prepared gather o (call.Delete row) (prepared.Restored rows) other_ is = refl
due_prepared gather o (call.Delete row) (prepared.Refused fault) other_ is = refl
due_prepared gather o (call.Delete row) (prepared.Written w) other_ is = absurd is
due_prepared gather o (call.Lock to row) prepared.Nothing other_ is = refl
due_prepared gather o (call.Lock to row) (prepared.Row other value) other_ is = refl
due_prepared gather o (call.Lock to row) (prepared.Restored rows) other_ is = refl
due_prepared gather o (call.Lock to row) (prepared.Refused fault) other_ is = refl
due_prepared gather o (call.Lock to row) (prepared.Written w) other_ is = absurd is
due_prepared gather o (call.Select to row) prepared.Nothing other_ is = refl
due_prepared gather o (call.Select to row) (prepared.Row other value) other_ is = refl
due_prepared gather o (call.Select to row) (prepared.Restored rows) other_ is = refl
due_prepared gather o (call.Select to row) (prepared.Refused fault) other_ is = refl
due_prepared gather o (call.Select to row) (prepared.Written w) other_ is = absurd is
due_prepared gather o (call.SelectAsOf to row n) p other_ is = due_write gather o (call.SelectAsOf to row n) (written_name (call.SelectAsOf to row n)) p is
due_prepared gather o (call.Assign to from) p other_ is = due_write gather o (call.Assign to from) (written_name (call.Assign to from)) p is
due_prepared gather o (call.Free at) p other_ is = due_write gather o (call.Free at) (written_name (call.Free at)) p is
due_prepared gather o (call.Length at) p other_ is = due_write gather o (call.Length at) (written_name (call.Length at)) p is
due_prepared gather o (call.Read at amount offset) p other_ is = due_write gather o (call.Read at amount offset) (written_name (call.Read at amount offset)) p is
due_prepared gather o (call.Instr at pattern offset) p other_ is = due_write gather o (call.Instr at pattern offset) (written_name (call.Instr at pattern offset)) p is
due_prepared gather o (call.Compare left right amount left_offset right_offset) p other_ is = due_write gather o (call.Compare left right amount left_offset right_offset) (written_name (call.Compare left right amount left_offset right_offset)) p is
due_prepared gather o (call.Write at offset buffer) p other_ is = due_write gather o (call.Write at offset buffer) (written_name (call.Write at offset buffer)) p is
due_prepared gather o (call.WriteAppend at buffer) p other_ is = due_write gather o (call.WriteAppend at buffer) (written_name (call.WriteAppend at buffer)) p is
due_prepared gather o (call.Append at from) p other_ is = due_write gather o (call.Append at from) (written_name (call.Append at from)) p is
due_prepared gather o (call.Copy at from amount to_offset from_offset) p other_ is = due_write gather o (call.Copy at from amount to_offset from_offset) (written_name (call.Copy at from amount to_offset from_offset)) p is
due_prepared gather o (call.Erase at amount offset) p other_ is = due_write gather o (call.Erase at amount offset) (written_name (call.Erase at amount offset)) p is
due_prepared gather o (call.Trim at size) p other_ is = due_write gather o (call.Trim at size) (written_name (call.Trim at size)) p is
due_prepared gather o (call.FragInsert at offset buffer) p other_ is = due_write gather o (call.FragInsert at offset buffer) (written_name (call.FragInsert at offset buffer)) p is
due_prepared gather o (call.FragDelete at amount offset) p other_ is = due_write gather o (call.FragDelete at amount offset) (written_name (call.FragDelete at amount offset)) p is
due_prepared gather o (call.FragMove at amount from_offset to_offset) p other_ is = due_write gather o (call.FragMove at amount from_offset to_offset) (written_name (call.FragMove at amount from_offset to_offset)) p is
due_prepared gather o (call.FragReplace at old_amount offset buffer) p other_ is = due_write gather o (call.FragReplace at old_amount offset buffer) (written_name (call.FragReplace at old_amount offset buffer)) p is
due_prepared gather o (call.SetOptions at share) p other_ is = due_write gather o (call.SetOptions at share) (written_name (call.SetOptions at share)) p is
due_prepared gather o (call.Savepoint name) p other_ is = due_write gather o (call.Savepoint name) (written_name (call.Savepoint name)) p is
due_prepared gather o (call.RollbackTo name) prepared.Nothing other_ is = refl
due_prepared gather o (call.RollbackTo name) (prepared.Row other value) other_ is = refl
due_prepared gather o (call.RollbackTo name) (prepared.Restored rows) other_ is = refl
due_prepared gather o (call.RollbackTo name) (prepared.Refused fault) other_ is = refl
due_prepared gather o (call.RollbackTo name) (prepared.Written w) other_ is = absurd is
due_prepared gather o call.Commit p other_ is = absurd (other_ refl)
due_prepared gather o call.Rollback p other_ is = due_write gather o call.Rollback (written_name call.Rollback) p is
due_prepared gather o call.End p other_ is = due_write gather o call.End (written_name call.End) p is
