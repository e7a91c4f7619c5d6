use Rattle.std.proofs.Common.{◌≡◌, ◌++◌, length}
use Rattle.std.specs.Prelude.{flat_map}
use Rattle.sf_types.specs.Space.Cuts.{contents_of_segment}
use Rattle.sf_plain_table.proofs.cuts.contents_of_segments.Given as goal

abbrev pub invariant-loop-segment : goal.invariant-loop-segment
invariant-loop-segment l = l.contents.items ++ flat_map contents_of_segment l.segments.items ≡ flat_map contents_of_segment l.initial.segments.items

abbrev pub decreases-loop-segment : goal.decreases-loop-segment
decreases-loop-segment l = length l.segments.items
