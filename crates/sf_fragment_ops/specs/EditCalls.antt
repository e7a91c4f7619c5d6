-- The calls that edit the bytes of a value (WRITE, WRITEAPPEND, APPEND, COPY, ERASE, TRIM and the FRAGMENT calls of DBMS_LOB).
use Rattle.std.specs.Prelude.{ℕ, Bool, true, false, List, Option, Some, None, Result, Ok, Err}
use Rattle.sf_types.specs.Values.Marks.{Marked, Value, empty_value, size_of}
use Rattle.sf_types.specs.Values.Edits.{erased_count}
use Rattle.sf_types.specs.Calls.Arguments.{argument_refusals}
use Rattle.sf_types.specs.Calls.Refusals.{first_refusal}
use Rattle.sf_types.specs.declared.reply.Fault.{Fault}
use Rattle.sf_types.specs.declared.call.Call.{Call}
use Rattle.sf_types.specs.declared.call.Call.TheVariants as call

-- Whether a call edits bytes.
abbrev pub is_edit : Call → Bool
is_edit (call.Write at offset buffer) = true
is_edit (call.WriteAppend at buffer) = true
is_edit (call.Append at from) = true
is_edit (call.Copy at from amount to_offset from_offset) = true
is_edit (call.Erase at amount offset) = true
is_edit (call.Trim at size) = true
is_edit (call.FragInsert at offset buffer) = true
is_edit (call.FragDelete at amount offset) = true
is_edit (call.FragMove at amount from_offset to_offset) = true
is_edit (call.FragReplace at old_amount offset buffer) = true
is_edit _ = false

-- A value with other bytes and its own choice.
abbrev pub with_bytes : Value → List Marked → Value
with_bytes value bytes = record value { bytes = bytes }

-- The value after a call: as before where a fault refuses it, else what the call makes of it.
abbrev pub edited : Option Fault → Value → Value → Value
edited None before done = done
edited (Some fault) before done = before

-- What a call is answered: the fault that refuses it, or else this.
abbrev pub answered : {X : Type 0} → Option Fault → X → Result X Fault
answered None answer = Ok answer
answered (Some fault) answer = Err fault

-- The number that a call answers: Erase how many bytes it erased, and no other call.
abbrev pub edit_number : Call → Value → Option ℕ
edit_number (call.Erase at amount offset) value = Some (erased_count value.bytes amount offset)
edit_number _ value = None

-- Append and Copy take bytes from a source.
abbrev pub is_sourced : Call → Bool
is_sourced (call.Append at from) = true
is_sourced (call.Copy at from amount to_offset from_offset) = true
is_sourced _ = false

-- The source's value, and the empty one where there is no source.
abbrev pub source_or_empty : Option Value → Value
source_or_empty None = empty_value
source_or_empty (Some value) = value

-- How an edit is refused, where its value and its source are these.
abbrev pub edit_refusal : Call → Value → Value → Option Fault
edit_refusal c value source = first_refusal (argument_refusals c (size_of value) (size_of source))
