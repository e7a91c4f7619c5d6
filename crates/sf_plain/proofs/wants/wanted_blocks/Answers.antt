use Rattle.std.proofs.Common.{◌≡◌, ◌+◌, arith}
use Rattle.std.proofs.lemmas.Grind.{common_steps}
use Rattle.sf_plain.proofs.WantLemmas.{next_wanted}
use Rattle.sf_plain.proofs.wants.wanted_blocks.Goals as goal

pub loop-at-preserved : goal.loop-at-preserved
loop-at-preserved c =
    let sum : c.in_ok-blocks.blocks ≡ c.loop-at.blocks + c.blocks_behind-more.result = grind (arith, common_steps) in
    omega (arith, sum, c.blocks_behind-more.ensures, c.loop-at.invariant, next_wanted c.args.contents.now c.args.reached.now c.args.of.now c.loop-at.at c.index-of-at.result c.loop-at-test.true c.index-of-at.is)
