use Rattle.std.proofs.Common.{◌≡◌, ◌≤◌, length, ◌-◌}
use Rattle.std.specs.Prelude.{take}
use Rattle.sha2.specs.Hashers.{Holds256}
use Rattle.sf_types.specs.Values.Marks.{size_of, strip}
use Rattle.sf_store_half.proofs.row_sums.sum_of_value.Given as goal

abbrev pub invariant-loop-at : goal.invariant-loop-at
invariant-loop-at l = record {
  within : l.at ≤ size_of l.map;
  hashed : Holds256 l.hasher (take l.at (strip l.map));
  buffer : length l.buffer ≡ length l.fn.buffer;
}

abbrev pub decreases-loop-at : goal.decreases-loop-at
decreases-loop-at l = size_of l.map - l.at
