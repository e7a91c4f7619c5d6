use Rattle.std.proofs.Common.{◌-◌}
use Rattle.sf_store_half.specs.Inside.Promises.{IsCandidate, IsTrial}
use Rattle.sf_store_half.proofs.store_half.StoreHalf.find_floor.Given as goal

-- the promise was tried at a floor, and fits at none below it
abbrev pub invariant-loop-floor : goal.invariant-loop-floor
invariant-loop-floor l = record {
  trial : IsTrial l.self l.session l.births l.cuts l.trial;
  candidate : IsCandidate l.self l.session l.births l.cuts l.trial.floor;
}

abbrev pub decreases-loop-floor : goal.decreases-loop-floor
decreases-loop-floor l = l.self.versions.now - l.trial.floor
