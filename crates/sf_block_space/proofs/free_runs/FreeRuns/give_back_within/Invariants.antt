use Rattle.std.proofs.Common.{◌≡◌, length, take}
use Rattle.sf_types.specs.Space.BlockRuns.{blocks_in}
use Rattle.sf_block_space.specs.Inside.{TakesBack}
use Rattle.sf_block_space.proofs.free_runs.FreeRuns.give_back_within.Given as goal

-- the runs before this one have come back
abbrev pub invariant-loop-run : goal.invariant-loop-run
invariant-loop-run l = record {
  back : TakesBack l.initial.self-inside.runs l.self-inside.runs (take l.run-index l.run-items);
  count : l.self-inside.free ≡ length (blocks_in l.self-inside.runs.held.runs);
}
