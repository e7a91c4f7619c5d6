use Rattle.std.proofs.Common.{◌≡◌, ◌≤◌, drop, length}
use Rattle.sf_types.specs.Inside.Births.{rising_births}
use Rattle.sf_plain_table.proofs.births.rising_births.Given as goal

abbrev pub invariant-loop-left : goal.invariant-loop-left
invariant-loop-left l = record {
  within : l.left ≤ length l.births.items;
  rising : l.rising.items ≡ rising_births (drop l.left l.births.items);
}

abbrev pub decreases-loop-left : goal.decreases-loop-left
decreases-loop-left l = l.left
