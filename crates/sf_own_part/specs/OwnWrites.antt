-- A writing call by a session's own part (our own).
use Rattle.std.specs.Prelude.{ℕ, List, Option, Some, None}
use Rattle.sf_types.specs.declared.call.Call.{Call}
use Rattle.sf_types.specs.declared.call.Call.TheVariants as call
use Rattle.sf_types.specs.declared.reply.Fault.{Fault}
use Rattle.sf_types.specs.declared.reply.Reply.{Reply}
use Rattle.sf_types.specs.declared.reply.Reply.TheVariants as reply
use Rattle.sf_types.specs.Values.Edits.{erased_count}
use Rattle.sf_types.specs.Values.Marks.{Value}
use Rattle.sf_types.specs.Calls.WritingCalls.{writing_refusal, result_of, old_value}
use Rattle.sf_types.specs.Halves.Own.{Own, has_lock, held_value, own_row}
use Rattle.sf_own_part.specs.declared.writes.Written.{Written}

-- The first refusal of a writing call through a locator, before that for want of space.
abbrev pub write_refusal : Own → List ℕ → Call → Option Fault
write_refusal o at c = writing_refusal o.part (has_lock o (own_row o at)) (held_value o (own_row o at)) at c

-- The number that a writing call answers: Erase how many bytes it erased, and no other call.
abbrev pub write_number : Call → Value → Option ℕ
write_number (call.Erase at amount offset) value = Some (erased_count value.bytes amount offset)
write_number _ value = None

-- What a writing call that isn't refused writes: its result, through the locator and into the locator's row, and the number
-- that it answers.
abbrev pub written : Own → List ℕ → Call → Written
written o at c = record {
  at = at;
  row = own_row o at;
  map = result_of o.part (held_value o (own_row o at)) at c;
  number = write_number c (old_value o.part (held_value o (own_row o at)) at);
}

-- The reply to a writing call that is done, by the number that it answers.
abbrev pub reply_by_number : Option ℕ → Reply
reply_by_number None = reply.Done
reply_by_number (Some number) = reply.Number number
