use Rattle.std.proofs.Common.{◌++◌, ◌∙◌, ap, sym, arith}
use Rattle.std.specs.Option.{option_copied}
use Rattle.sf_session_values.specs.Inside.EntryBirths.{births_of_row}
use Rattle.sf_session_values.proofs.EntryBirthLemmas.{births_added, all_births_added, rows_beside-births}
use Rattle.sf_session_values.proofs.values.SessionValues.add_row_births.Goals as goal

pub loop-k-preserved : goal.loop-k-preserved
loop-k-preserved c = births_added (births_of_row (option_copied c.args.except)) c.args.self.now.held.working c.loop-k.k _ _ _ c.loop-k.invariant c.in_ok-add_row.ensures

pub returns : goal.returns
returns c =
    all_births_added (births_of_row (option_copied c.args.except)) c.args.self.now.held.working c.loop-k.k _ _ c.loop-k.invariant (omega (arith, c.row_count-k-end.ensures.count, c.loop-k-test.false))
    ∙ ap (λ bs. c.args.into.now ++ bs) (sym (rows_beside-births (option_copied c.args.except) c.args.self.now.held.working c.row_count-k-end.ensures.rising))
