use Rattle.std.proofs.Common.{arith}
use Rattle.sf_types.specs.Inside.Births.{rising_births}
use Rattle.sf_session_values.specs.ValueBirths.{births_of_rows}
use Rattle.sf_session_values.proofs.EntryBirthLemmas.{births_added, all_births_added}
use Rattle.sf_own_part.proofs.kept_births.add_savepoints.Goals as goal

pub loop-k-preserved : goal.loop-k-preserved
loop-k-preserved c = births_added (λ x. rising_births (births_of_rows x.working)) c.args.savepoints.now c.loop-k.k _ _ _ c.loop-k.invariant c.in_ok-add_savepoint.ensures

pub returns : goal.returns
returns c = all_births_added (λ x. rising_births (births_of_rows x.working)) c.args.savepoints.now c.loop-k.k _ _ c.loop-k.invariant (omega (arith, c.loop-k-test.false))
