use Rattle.std.proofs.Common.{◌≡◌, ◌++◌, ◌-◌, length, drop}
use Rattle.sf_store_half.specs.Inside.Commits.{displaced_notes}
use Rattle.sf_store_half.proofs.commits.displaced_notes.Given as goal

abbrev pub invariant-loop-change : goal.invariant-loop-change
invariant-loop-change l = (l.notes ++ displaced_notes l.versions.held (drop l.at l.changes) ≡ displaced_notes l.versions.held l.changes)

abbrev pub decreases-loop-change : goal.decreases-loop-change
decreases-loop-change l = length l.changes - l.at
