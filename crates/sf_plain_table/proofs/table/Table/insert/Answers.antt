use Rattle.std.proofs.Common.{sym, ap, ◌∙◌}
use Rattle.sf_types.specs.Table.Parts.{Session, Table}
use Rattle.sf_types.specs.Table.Sessions.{with_lock}
use Rattle.sf_types.specs.Calls.RowCalls.{after_insert}
use Rattle.sf_plain_table.proofs.TableLemmas.{insert_done}
use Rattle.sf_plain_table.proofs.table.Table.insert.Goals as goal

pub returns : goal.returns
returns c =
    insert_done c.args.self.now c.args.s c.args.row.now c.in_ok-part.part c.take_lock.new.self
    (sym c.is_busy.ensures ∙ c.if-is_busy.false)
    (sym c.is_present.ensures ∙ c.if-is_present.false)
    (c.in_ok-part.ensures ∙ ap (λ (p : Session). after_insert p c.args.row.now) c.part.ensures)
    (c.in_ok-take_lock.ensures ∙ ap (λ (u : Table). record u { locks = with_lock u.locks c.args.s c.args.row.now }) c.put_part.ensures)
