use Rattle.std.proofs.Common.{◌∙◌, ◌+◌, ℕ, sym, ap, cond, get_or, arith}
use Rattle.std.specs.Prelude.{◌==◌, Bool}
use Rattle.std.specs.FinMap as fin
use Rattle.sf_lifetimes.specs.Inside.Counts.{holders_in}
use Rattle.sf_lifetimes.proofs.CountLemmas.{has_own, lone_few}
use Rattle.sf_lifetimes.proofs.PlaceLemmas.{below_next, lone_count}
use Rattle.sf_lifetimes.proofs.place_map.PlaceMap.count_lone.Goals as goal
use Rattle.sf_lifetimes.proofs.place_map.PlaceMap.count_lone.Goals.{then-is_lone, else-is_lone}

pub place_from-at-requires-clause-below : goal.place_from-at-requires-clause-below
place_from-at-requires-clause-below c = c.loop-k.invariant.below c.loop-k-test.true

pub is_lone-requires : goal.is_lone-requires
is_lone-requires c = c.requires.held _ (has_own c.args.old.now c.loop-k.k c.loop-k-test.true)

pub overflow_add-count : goal.overflow_add-count
overflow_add-count c =
    omega (arith, c.loop-k.invariant.count, c.loop-k.invariant.few, c.loop-k-test.true, lone_few c.args.self.now.held c.args.new.now c.args.old.now c.loop-k.k (omega (arith, c.loop-k-test.true)))

pub loop-k-preserved : goal.loop-k-preserved
loop-k-preserved c =
    let m = c.args.self.now.held in
    let old = c.args.old.now in
    let new = c.args.new.now in
    let k = c.loop-k.k in
    let below = below_next new old c.place_from-at.result k c.requires.old c.place_from-at.ensures.below in
    let more = lone_count m new old k c.loop-k-test.true in
    let told = ap (λ (t : Bool). (holders_in (fin.get m (get_or old k 0)) + cond t 1 0) == 1) (sym c.stands_at.ensures) ∙ sym c.is_lone.ensures in
    elim c.if-is_lone.branch [
      | then-is_lone w ↦ record {
        within = c.place_from-at.ensures.within;
        below = below;
        count = omega (arith, w.count-is, c.loop-k.invariant.count, more, ap {B = ℕ} (λ (t : Bool). cond t 1 0) (told ∙ w.if-is_lone.true));
        few = c.loop-k.invariant.few;
      }
      | else-is_lone w ↦ record {
        within = c.place_from-at.ensures.within;
        below = below;
        count = omega (arith, w.count-is, c.loop-k.invariant.count, more, ap {B = ℕ} (λ (t : Bool). cond t 1 0) (told ∙ w.if-is_lone.false));
        few = c.loop-k.invariant.few;
      }
    ]
