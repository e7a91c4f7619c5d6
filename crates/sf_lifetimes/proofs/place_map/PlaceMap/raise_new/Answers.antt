use Rattle.std.proofs.Common.{◌∙◌, ◌+◌, ◌<◌, ◌^◌, sym, ap, subst, take, get_or}
use Rattle.sf_types.specs.Rooms.{Roomy}
use Rattle.sf_lifetimes.specs.Inside.Counts.{CountedMap, AreChangedBut, holders_in, with_one_more}
use Rattle.sf_lifetimes.proofs.CountLemmas.{has_own}
use Rattle.sf_lifetimes.proofs.PlaceLemmas.{below_next, untouched_but, changed_but, unchanged_but}
use Rattle.sf_lifetimes.proofs.place_map.PlaceMap.raise_new.Goals as goal
use Rattle.sf_lifetimes.proofs.place_map.PlaceMap.raise_new.Goals.{then-not-stands_at, else-not-stands_at}

pub place_from-at-requires-clause-below : goal.place_from-at-requires-clause-below
place_from-at-requires-clause-below c = c.loop-k.invariant.below c.loop-k-test.true

pub raise-requires-clause-few : goal.raise-requires-clause-few
raise-requires-clause-few c =
    let new = c.args.new.now in
    let k = c.loop-k.k in
    let same = untouched_but with_one_more c.args.self.now.held c.loop-k.self.held new c.args.old.now k c.requires.new c.loop-k-test.true c.loop-k.invariant.changed in
    subst (λ x. holders_in x < 2 ^ 63) (sym same) (c.requires.few (get_or new k 0) (has_own new k c.loop-k-test.true)).1

pub loop-k-preserved : goal.loop-k-preserved
loop-k-preserved c =
    let old = c.args.old.now in
    let new = c.args.new.now in
    let k = c.loop-k.k in
    let m = c.args.self.now.held in
    let n = c.loop-k.self.held in
    let before = c.loop-k.invariant.changed in
    let below = below_next old new c.place_from-at.result k c.requires.new c.place_from-at.ensures.below in
    elim c.if-not-stands_at.branch [
      | then-not-stands_at w ↦ record {
        within = c.place_from-at.ensures.within;
        below = below;
        changed = subst (λ (s : Roomy CountedMap). AreChangedBut with_one_more m (take (k + 1) new) old s.held) (sym w.self-is)
            (changed_but with_one_more m n w.raise.new.self.held new old k c.requires.new c.loop-k-test.true before (sym c.stands_at.ensures ∙ w.if-not-stands_at.true) w.raise.ensures.changed);
        spare = ap (λ (s : Roomy CountedMap). s.spare) w.self-is ∙ w.raise.ensures.spare ∙ c.loop-k.invariant.spare;
      }
      | else-not-stands_at w ↦ record {
        within = c.place_from-at.ensures.within;
        below = below;
        changed = subst (λ (s : Roomy CountedMap). AreChangedBut with_one_more m (take (k + 1) new) old s.held) (sym w.self-is)
            (unchanged_but with_one_more m n new old k c.requires.new c.loop-k-test.true before (sym c.stands_at.ensures ∙ w.if-not-stands_at.false));
        spare = ap (λ (s : Roomy CountedMap). s.spare) w.self-is ∙ c.loop-k.invariant.spare;
      }
    ]
