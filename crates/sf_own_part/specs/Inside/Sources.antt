-- Sources of writing calls, and what a writing call makes of a value (our own).
use Rattle.std.specs.Prelude.{Bool, true}
use Rattle.std.specs.Option.{option_map_or}
use Rattle.sf_types.specs.declared.call.Call.{Call}
use Rattle.sf_types.specs.Inside.NameMaps.{has}
use Rattle.sf_types.specs.Values.Marks.{Value}
use Rattle.sf_types.specs.Table.Parts.{Session}
use Rattle.sf_types.specs.Calls.WritingCalls.{written_name, source_name, source_value, result_value, old_value, write_reply, after_write}
use Rattle.sf_types.specs.Halves.Own.{Own, held_value, own_row}
use Rattle.sf_types.specs.Halves.Asks.{own_with}
use Rattle.sf_types.specs.declared.reply.Reply.{Reply}
use Rattle.sf_types.specs.declared.reply.Reply.TheVariants as reply
use Rattle.sf_fragment_ops.specs.declared.editing.Edited.{Edited}
use Rattle.sf_own_part.specs.OwnWrites.{write_number}

-- Whether the source locator of a call is there. A call without a source lacks none.
abbrev pub has_source : Session → Call → Bool
has_source p c = option_map_or (has p.locators) (source_name c) true

-- The value that a writing call makes of one, and the number that it answers.
abbrev pub written_value : Session → Call → Value → Edited
written_value p c value = record { map = result_value c value (source_value p c); number = write_number c value }

-- The own part after an answer that gives a writing call its settled result, and the reply.
abbrev pub after_written : Own → Call → Value → Own × Reply
after_written o c v =
    option_map_or
    (λ at. own_with o (after_write o.part at v) o.rows (write_reply c (old_value o.part (held_value o (own_row o at)) at)))
    (written_name c) (o, reply.Done)
