use Rattle.std.proofs.Common.{sym, subst, arith}
use Rattle.sf_store_half.specs.Inside.Promises.{IsCandidate}
use Rattle.sf_store_half.proofs.FloorTrialLemmas.{candidate_next}
use Rattle.sf_store_half.proofs.store_half.StoreHalf.find_floor.Goals as goal

pub loop-floor-init : goal.loop-floor-init
loop-floor-init c =
    let f = c.args.self.now in
    let at = c.in_ok-trial.ensures.floor in
    record {
      trial = c.in_ok-trial.ensures.trial;
      candidate = record {
        low = omega (arith, at);
        high = omega (arith, at, c.in_ok-trial.ensures.within);
        least = λ g low less. absurd (omega (arith, at, low, less));
        alone = λ _. at;
      };
    }

pub loop-floor-preserved : goal.loop-floor-preserved
loop-floor-preserved c =
    let f = c.args.self.now in
    let before = c.loop-floor.invariant in
    record {
      trial = c.in_ok-trial-2.ensures.trial c.args.session before.trial;
      candidate =
          subst (IsCandidate f c.args.session c.args.births.now c.args.cuts.now) (sym c.in_ok-trial-2.ensures.floor)
          (candidate_next f c.args.session c.args.births.now c.args.cuts.now c.loop-floor.trial c.in-Some.floor before.trial before.candidate c.in-Some.ensures.next);
    }
