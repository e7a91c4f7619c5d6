use Rattle.std.proofs.Common.{length, ap, arith}
use Rattle.sf_types.proofs.RunLemmas.{next-count}
use Rattle.sf_stock.proofs.joining.joined.Goals as goal

pub push_joined-requires-clause-few : goal.push_joined-requires-clause-few
push_joined-requires-clause-few c = omega (arith, c.requires, ap length c.loop-run.invariant.blocks, next-count c.args.runs.now c.loop-run.run-index c.loop-run-test.true)
