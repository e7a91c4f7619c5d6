use Rattle.std.proofs.Common.{sym, ap, ◌∙◌}
use Rattle.std.specs.Option.{option_copied}
use Rattle.sf_types.specs.Table.Parts.{Session, Table}
use Rattle.sf_types.specs.Table.Sessions.{with_lock, lacks_room}
use Rattle.sf_types.specs.Calls.RowCalls.{after_lock}
use Rattle.sf_plain_table.proofs.TableLemmas.{lock_done}
use Rattle.sf_plain_table.proofs.table.Table.lock.Goals as goal

pub returns : goal.returns
returns c =
    lock_done c.args.self.now c.args.s c.args.to.now c.args.row.now c.in-Some.value.now c.in_ok-part.part c.take_lock.new.self
    (ap (λ (p : Session). lacks_room p c.args.to.now) (sym c.part.ensures) ∙ sym c.lacks_room.ensures ∙ c.if-lacks_room.false)
    (sym c.is_busy.ensures ∙ c.if-is_busy.false)
    (sym c.row_value.ensures ∙ ap option_copied c.in-Some.is)
    (c.in_ok-part.ensures ∙ ap (λ (p : Session). after_lock p c.args.to.now c.args.row.now c.in-Some.value.now) c.part-2.ensures)
    (c.in_ok-take_lock.ensures ∙ ap (λ (u : Table). record u { locks = with_lock u.locks c.args.s c.args.row.now }) c.put_part.ensures)
