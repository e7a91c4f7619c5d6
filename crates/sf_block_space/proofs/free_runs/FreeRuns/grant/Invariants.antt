use Rattle.std.proofs.Common.{◌≡◌, ◌+◌, ◌≤◌, ◌++◌, List, length}
use Rattle.sf_types.specs.declared.run.Run.{Run}
use Rattle.sf_types.specs.Space.BlockRuns.{blocks_in}
use Rattle.sf_block_space.specs.Inside.{IsGrant}
use Rattle.sf_block_space.specs.Inside.{HandsOut, IsRoomFor}
use Rattle.sf_block_space.proofs.free_runs.FreeRuns.grant.Given as goal

-- a grant of the rest from the runs that are left completes what was granted
abbrev pub invariant-loop-rest : goal.invariant-loop-rest
invariant-loop-rest l = record {
  handed : HandsOut l.initial.self-inside.runs l.self-inside.runs l.granted.held;
  enough : l.rest ≤ length (blocks_in l.self-inside.runs.held.runs);
  completes : (more : List Run) → IsGrant l.self-inside.runs.held.runs l.rest more → IsGrant l.initial.self-inside.runs.held.runs l.n (l.granted.held ++ more);
  count : length (blocks_in l.granted.held) + l.rest ≡ l.n;
  free : l.self-inside.free ≡ length (blocks_in l.self-inside.runs.held.runs);
  spare : IsRoomFor l.self-inside.runs.held.runs l.rest l.granted.spare;
}

abbrev pub decreases-loop-rest : goal.decreases-loop-rest
decreases-loop-rest l = l.rest
