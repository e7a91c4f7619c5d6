use Rattle.std.proofs.Common.{◌≡◌, ◌+◌, ◌++◌, length, take}
use Rattle.sf_types.specs.Space.BlockRuns.{blocks_in}
use Rattle.sf_free_commit.specs.Batches.{runs_with_blocks}
use Rattle.sf_free_commit.proofs.committed.Committed.park_within.Given as goal

-- those among the runs before this one were parked, and the room has shrunk by their number
abbrev pub invariant-loop-run : goal.invariant-loop-run
invariant-loop-run l = record {
  runs : l.self-inside.queue.held ≡ l.initial.self-inside.queue.held ++ runs_with_blocks (take l.run-index l.runs);
  blocks : length (blocks_in l.self-inside.queue.held) ≡ length (blocks_in l.initial.self-inside.queue.held) + length (blocks_in (take l.run-index l.runs));
  count : l.self-inside.parked ≡ length (blocks_in l.self-inside.queue.held);
  room : l.self-inside.queue.spare + length (runs_with_blocks (take l.run-index l.runs)) ≡ l.initial.self-inside.queue.spare;
}
