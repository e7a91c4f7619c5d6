use Rattle.std.proofs.Common.{◌≡◌, take}
use Rattle.sf_types.specs.Space.BlockRuns.{blocks_in}
use Rattle.sf_space_words.specs.Blocks.{without_blocks}
use Rattle.sf_reclaimer.proofs.runs.release.Given as goal

-- the blocks of the runs so far are gone
abbrev pub invariant-loop-run : goal.invariant-loop-run
invariant-loop-run l = l.seat ≡ record l.initial.seat { blocks = without_blocks (blocks_in (take l.run-index l.run-items)) l.initial.seat.blocks }
