use Rattle.std.proofs.Common.{◌≡◌, ◌++◌, ◌-◌, length, drop}
use Rattle.sf_store_half.specs.Inside.Commits.{row_births}
use Rattle.sf_store_half.proofs.commits.row_births.Given as goal

abbrev pub invariant-loop-change : goal.invariant-loop-change
invariant-loop-change l = (l.held ++ row_births (drop l.at l.changes) ≡ row_births l.changes)

abbrev pub decreases-loop-change : goal.decreases-loop-change
decreases-loop-change l = length l.changes - l.at
