use Rattle.std.proofs.Common.{◌≡◌, length, take}
use Rattle.sf_types.specs.Space.BlockRuns.{blocks_in}
use Rattle.sf_plain_store.proofs.turns.block_count.Given as goal

abbrev pub invariant-loop-run : goal.invariant-loop-run
invariant-loop-run l = l.count ≡ length (blocks_in (take l.run-index l.run-items))
