-- A due call writes through a locator that is there.
use Rattle.std.proofs.Common.{◌≡◌, ℕ, Bool, true, List, Option, Some, None, refl}
use Rattle.std.specs.Prelude.{◌&&◌, nat_le, is_none, IsSome}
use Rattle.sf_types.specs.declared.call.Call.{Call}
use Rattle.sf_types.specs.declared.call.Call.TheVariants as call
use Rattle.sf_types.specs.declared.reply.Fault.{Fault}
use Rattle.sf_types.specs.declared.reply.Fault.TheVariants.{UnknownLocator}
use Rattle.sf_types.specs.Values.Marks.{Value, fresh_count}
use Rattle.sf_types.specs.Table.Parts.{Locator, Session, Table}
use Rattle.sf_types.specs.Table.Sessions.{session_of, holds_lock}
use Rattle.sf_types.specs.Table.Versions.{current_value}
use Rattle.sf_types.specs.Calls.LocatorCalls.{locator_named}
use Rattle.sf_types.specs.Calls.WritingCalls.{writing_refusal}
use Rattle.sf_types.specs.Space.Due.{is_due, is_write_due, result_in, written_row}
use Rattle.sf_plain.specs.Inside.Written.{HasWritten}

there : (o : Option Locator) → (o ≡ None → ⊥) → IsSome o
there None some = absurd (some refl)
there (Some l) some = refl

no_refusal : (o : Option Fault) (b : Bool) → (is_none o && b) ≡ true → o ≡ None
no_refusal None b is = refl
no_refusal (Some f) b is = absurd cc

unknown_refused : (p : Session) (is_held : Bool) (value : Option Value) (at : List ℕ) (c : Call) → locator_named p at ≡ None → writing_refusal p is_held value at c ≡ Some UnknownLocator
unknown_refused p is_held value at c none = rw none refl

not_both : (o : Option Fault) → o ≡ None → o ≡ Some UnknownLocator → ⊥
not_both None none some = absurd cc
not_both (Some f) none some = absurd cc

-- A writing call that is due has its locator.
write_named : (t : Table) (s : ℕ) (at : List ℕ) (c : Call) → is_write_due t s (session_of t s) at c ≡ true → IsSome (locator_named (session_of t s) at)
write_named t s at c due =
    let p = session_of t s in
    let row = written_row p at in
    let held = holds_lock t.locks s row in
    let value = current_value t row in
    let none : writing_refusal p held value at c ≡ None = no_refusal (writing_refusal p held value at c) (nat_le t.options.gather (fresh_count (result_in t p at c))) due in
    there (locator_named p at) (λ missing. not_both (writing_refusal p held value at c) none (unknown_refused p held value at c missing))

-- A due call has its locator.
pub due_written : (t : Table) (s : ℕ) (c : Call) → is_due t s c ≡ true → HasWritten (session_of t s) c
due_written t s (call.Insert row) due = tt
due_written t s (call.Delete row) due = tt
due_written t s (call.Lock to row) due = tt
due_written t s (call.Select to row) due = tt
due_written t s (call.SelectAsOf to row commit) due = tt
due_written t s (call.Assign to from) due = tt
due_written t s (call.Free at) due = tt
due_written t s (call.Length at) due = tt
due_written t s (call.Read at amount offset) due = tt
due_written t s (call.Instr at pattern offset) due = tt
due_written t s (call.Compare left right amount left_offset right_offset) due = tt
due_written t s (call.Write at offset bytes) due = write_named t s at (call.Write at offset bytes) due
due_written t s (call.WriteAppend at bytes) due = write_named t s at (call.WriteAppend at bytes) due
due_written t s (call.Append at from) due = write_named t s at (call.Append at from) due
due_written t s (call.Copy at from amount to_offset from_offset) due = write_named t s at (call.Copy at from amount to_offset from_offset) due
due_written t s (call.Erase at amount offset) due = write_named t s at (call.Erase at amount offset) due
due_written t s (call.Trim at length) due = write_named t s at (call.Trim at length) due
due_written t s (call.FragInsert at offset bytes) due = write_named t s at (call.FragInsert at offset bytes) due
due_written t s (call.FragDelete at amount offset) due = write_named t s at (call.FragDelete at amount offset) due
due_written t s (call.FragMove at amount from_offset to_offset) due = write_named t s at (call.FragMove at amount from_offset to_offset) due
due_written t s (call.FragReplace at old_amount offset bytes) due = write_named t s at (call.FragReplace at old_amount offset bytes) due
due_written t s (call.SetOptions at share) due = write_named t s at (call.SetOptions at share) due
due_written t s (call.Savepoint name) due = tt
due_written t s (call.RollbackTo name) due = tt
due_written t s call.Commit due = tt
due_written t s call.Rollback due = tt
due_written t s call.End due = tt
