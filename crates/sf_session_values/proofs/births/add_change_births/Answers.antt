use Rattle.std.proofs.Common.{◌++◌, ◌∙◌, ap, sym, arith}
use Rattle.sf_session_values.specs.Inside.EntryBirths.{births_of_value}
use Rattle.sf_session_values.proofs.EntryBirthLemmas.{births_added, all_births_added, row_by_row}
use Rattle.sf_session_values.proofs.births.add_change_births.Goals as goal

pub loop-k-preserved : goal.loop-k-preserved
loop-k-preserved c = births_added (λ row. births_of_value row.1) c.args.changes.now c.loop-k.k _ _ _ c.loop-k.invariant c.in_ok-add_change.ensures

pub returns : goal.returns
returns c =
    all_births_added (λ row. births_of_value row.1) c.args.changes.now c.loop-k.k _ _ c.loop-k.invariant (omega (arith, c.len-k-end.ensures.len, c.loop-k-test.false))
    ∙ ap (λ bs. c.args.into.now ++ bs) (sym (row_by_row c.args.changes.now))
