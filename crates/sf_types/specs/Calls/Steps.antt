-- One call of a session that flushes nothing: what it does, by cases on the call (our own).
use Rattle.std.specs.Prelude.{ℕ, List}
use Rattle.sf_types.specs.declared.call.Call.{Call}
use Rattle.sf_types.specs.declared.call.Call.TheVariants as call
use Rattle.sf_types.specs.declared.reply.Reply.{Reply}
use Rattle.sf_types.specs.Table.Parts.{Session, Table}
use Rattle.sf_types.specs.Table.Sessions.{session_of, with_session, holds_lock, locked_rows}
use Rattle.sf_types.specs.Table.Versions.{current_value}
use Rattle.sf_types.specs.Calls.RowCalls.{insert_call, delete_call, lock_call, select_call, select_as_of_call}
use Rattle.sf_types.specs.Calls.LocatorCalls.{locator, assign_call, free_call, length_call, read_call, instr_call, compare_call}
use Rattle.sf_types.specs.Calls.WritingCalls.{write_call}
use Rattle.sf_types.specs.Calls.Savepoints.{savepoint_call, rollback_to_call}
use Rattle.sf_types.specs.Calls.TransactionEnds.{commit_call, rollback_call, end_call}

-- A call that changes its session's part alone.
abbrev pub part_step : Table → ℕ → Session × Reply → Table × Reply
part_step t s done = (with_session t s done.0, done.1)

-- A writing call changes its session's part alone.
abbrev pub write_step : Table → ℕ → Session → List ℕ → Call → Table × Reply
write_step t s p at c =
    let row = (locator p at).row in
    part_step t s (write_call p (holds_lock t.locks s row) (current_value t row) at c)

-- A call of session s, whose part of the table is p.
abbrev pub call_step : Table → ℕ → Session → Call → Table × Reply
call_step t s p (call.Insert row) = insert_call t s p row
call_step t s p (call.Delete row) = delete_call t s p row
call_step t s p (call.Lock to row) = lock_call t s p to row
call_step t s p (call.Select to row) = select_call t s p to row
call_step t s p (call.SelectAsOf to row n) = select_as_of_call t s p to row n
call_step t s p (call.Assign to from) = part_step t s (assign_call p to from)
call_step t s p (call.Free at) = part_step t s (free_call p at)
call_step t s p (call.Length at) = part_step t s (length_call p at)
call_step t s p (call.Read at amount offset) = part_step t s (read_call p at amount offset)
call_step t s p (call.Instr at pattern offset) = part_step t s (instr_call p at pattern offset)
call_step t s p (call.Compare left right amount left_offset right_offset) =
    part_step t s (compare_call p left right amount left_offset right_offset)
call_step t s p (call.Write at offset buffer) = write_step t s p at (call.Write at offset buffer)
call_step t s p (call.WriteAppend at buffer) = write_step t s p at (call.WriteAppend at buffer)
call_step t s p (call.Append at from) = write_step t s p at (call.Append at from)
call_step t s p (call.Copy at from amount to_offset from_offset) =
    write_step t s p at (call.Copy at from amount to_offset from_offset)
call_step t s p (call.Erase at amount offset) = write_step t s p at (call.Erase at amount offset)
call_step t s p (call.Trim at new_size) = write_step t s p at (call.Trim at new_size)
call_step t s p (call.FragInsert at offset buffer) = write_step t s p at (call.FragInsert at offset buffer)
call_step t s p (call.FragDelete at amount offset) = write_step t s p at (call.FragDelete at amount offset)
call_step t s p (call.FragMove at amount from_offset to_offset) =
    write_step t s p at (call.FragMove at amount from_offset to_offset)
call_step t s p (call.FragReplace at old_amount offset buffer) =
    write_step t s p at (call.FragReplace at old_amount offset buffer)
call_step t s p (call.SetOptions at share) = write_step t s p at (call.SetOptions at share)
call_step t s p (call.Savepoint name) = part_step t s (savepoint_call p (locked_rows t.locks s) name)
call_step t s p (call.RollbackTo name) = rollback_to_call t s p name
call_step t s p call.Commit = commit_call t s p
call_step t s p call.Rollback = rollback_call t s p
call_step t s p call.End = end_call t s p

-- The table after a call of a session, and the reply.
abbrev pub step : Table → ℕ → Call → Table × Reply
step t s c = call_step t s (session_of t s) c
