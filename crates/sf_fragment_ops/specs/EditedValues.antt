-- What an edit gives of a value that stays (our own).
use Rattle.sf_types.specs.declared.call.Call.{Call}
use Rattle.sf_types.specs.Values.Marks.{Value}
use Rattle.sf_types.specs.Calls.WritingCalls.{result_value}
use Rattle.sf_fragment_ops.specs.declared.editing.Edited.{Edited}
use Rattle.sf_fragment_ops.specs.EditCalls.{edit_number}

-- The value that a call makes, and its number.
abbrev pub edited_value : Call → Value → Value → Edited
edited_value c value source = record { map = result_value c value source; number = edit_number c value }
