use Rattle.std.proofs.Common.{sym, ap, ◌∙◌}
use Rattle.std.specs.Option.{option_copied}
use Rattle.sf_types.specs.Table.Parts.{Session}
use Rattle.sf_types.specs.Calls.WritingCalls.{write_call}
use Rattle.sf_plain_table.proofs.TableLemmas.{write_unknown, write_done}
use Rattle.sf_plain_table.proofs.table.Table.write.Goals as goal

pub returns-in_default : goal.returns-in_default
returns-in_default c = write_unknown c.args.self.now c.args.s c.args.at.now c.args.call.now c.requires (sym c.in_ok-row.ensures ∙ c.in_default.is)

pub returns : goal.returns
returns c =
    write_done c.args.self.now _ c.args.s c.args.at.now c.in-Some.row c.args.call.now c.holds-is_held.result (option_copied c.current_value-current.result) _ c.in_ok-done.done
    (sym c.in_ok-row.ensures ∙ c.in-Some.is)
    c.holds-is_held.ensures c.current_value-current.ensures
    (c.in_ok-done.ensures ∙ ap (λ (p : Session). write_call p c.holds-is_held.result (option_copied c.current_value-current.result) c.args.at.now c.args.call.now) c.part.ensures)
    c.finish.ensures
