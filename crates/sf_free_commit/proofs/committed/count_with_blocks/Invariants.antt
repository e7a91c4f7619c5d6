use Rattle.std.proofs.Common.{◌≡◌, ◌≤◌, length, take}
use Rattle.sf_free_commit.specs.Batches.{runs_with_blocks}
use Rattle.sf_free_commit.proofs.committed.count_with_blocks.Given as goal

-- those among the runs before this one were counted
abbrev pub invariant-loop-run : goal.invariant-loop-run
invariant-loop-run l = record {
  counted : l.count ≡ length (runs_with_blocks (take l.run-index l.runs));
  few : l.count ≤ l.run-index;
}
