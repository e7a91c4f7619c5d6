use Rattle.std.proofs.Common.{◌≡◌, ◌+◌, ◌≤◌, ◌++◌, length, min}
use Rattle.std.specs.Prelude.{All}
use Rattle.sf_types.specs.Space.BlockRuns.{blocks_in}
use Rattle.sf_free_commit.specs.Batches.{first_runs, later_runs}
use Rattle.sf_free_commit.proofs.committed.Committed.take_batch.Given as goal

-- a batch of the rest from the runs that are left completes what was taken
abbrev pub invariant-loop-rest : goal.invariant-loop-rest
invariant-loop-rest l = record {
  batch : l.into.held ++ first_runs l.rest l.self-inside.queue.held ≡ l.fn.into.held ++ first_runs l.max l.initial.self-inside.queue.held;
  left : later_runs l.rest l.self-inside.queue.held ≡ later_runs l.max l.initial.self-inside.queue.held;
  rest : l.rest ≤ l.max;
  blocks : l.max + length (blocks_in l.self-inside.queue.held) ≡ l.rest + length (blocks_in l.initial.self-inside.queue.held);
  count : l.self-inside.parked ≡ length (blocks_in l.self-inside.queue.held);
  some : All (λ run. 1 ≤ run.blocks) (first_runs l.rest l.self-inside.queue.held) → All (λ run. 1 ≤ run.blocks) (first_runs l.max l.initial.self-inside.queue.held);
  few : length l.into.held + min l.rest (length l.self-inside.queue.held) ≤ length l.fn.into.held + min l.max (length l.initial.self-inside.queue.held);
  room : min l.rest (length l.self-inside.queue.held) ≤ l.into.spare;
  into : l.into.spare + length l.into.held ≡ l.fn.into.spare + length l.fn.into.held;
  spare : l.initial.self-inside.queue.spare ≤ l.self-inside.queue.spare;
}

abbrev pub decreases-loop-rest : goal.decreases-loop-rest
decreases-loop-rest l = l.rest
