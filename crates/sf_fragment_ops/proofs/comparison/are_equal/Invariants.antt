use Rattle.std.proofs.Common.{◌≡◌, ◌≤◌, ◌-◌}
use Rattle.sf_types.specs.Values.Marks.{strip}
use Rattle.sf_chunk_map.specs.Contents.{window}
use Rattle.sf_fragment_ops.proofs.comparison.are_equal.Given as goal

abbrev pub invariant-loop-done : goal.invariant-loop-done
invariant-loop-done l = record {
  most : l.done ≤ l.len;
  same : window l.left_at l.done (strip l.left) ≡ window l.right_at l.done (strip l.right);
}

abbrev pub decreases-loop-done : goal.decreases-loop-done
decreases-loop-done l = l.len - l.done
