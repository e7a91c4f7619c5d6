use Rattle.std.proofs.Common.{◌≤◌, length, ◌-◌}
use Rattle.sf_lifetimes.specs.Inside.Places.{AreBelow}
use Rattle.sf_lifetimes.proofs.rising.place_from.Given as goal

-- all births before this one are less
abbrev pub invariant-loop-at : goal.invariant-loop-at
invariant-loop-at l = record {
  within : l.at ≤ length l.births;
  below : AreBelow l.births l.at l.birth;
}

abbrev pub decreases-loop-at : goal.decreases-loop-at
decreases-loop-at l = length l.births - l.at
