use Rattle.std.proofs.Common.{◌≡◌, ◌≤◌, ◌-◌}
use Rattle.std.specs.List.{range_with_len}
use Rattle.sf_space_words.specs.Blocks.{without_blocks}
use Rattle.sf_reclaimer.proofs.runs.release_run.Given as goal

-- the run's blocks so far are gone
abbrev pub invariant-loop-done : goal.invariant-loop-done
invariant-loop-done l =
    record { within : l.done ≤ l.run.blocks; seat : l.seat ≡ record l.initial.seat { blocks = without_blocks (range_with_len l.run.first l.done) l.initial.seat.blocks } }

abbrev pub decreases-loop-done : goal.decreases-loop-done
decreases-loop-done l = l.run.blocks - l.done
