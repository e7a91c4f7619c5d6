use Rattle.std.proofs.Common.{◌≡◌, ◌++◌, length}
use Rattle.sf_types.specs.Space.Cuts.{settle_segments}
use Rattle.sf_plain_table.proofs.settling.settled_segments.Given as goal

abbrev pub invariant-loop-segment : goal.invariant-loop-segment
invariant-loop-segment l = l.marked.items ++ settle_segments l.segments.items l.rest ≡ settle_segments l.initial.segments.items l.births

abbrev pub decreases-loop-segment : goal.decreases-loop-segment
decreases-loop-segment l = length l.segments.items
