use Rattle.std.proofs.Common.{◌∙◌, ◌+◌, ◌≤◌, ◌++◌, [], ◌∷◌, ℕ, refl, sym, ap, subst, arith, take, get_or, length, List, append_assoc}
use Rattle.std.proofs.lemmas.List.{length-append}
use Rattle.sf_types.specs.declared.birth_runs.BirthRuns.{BirthRuns}
use Rattle.sf_types.specs.Rooms.{Roomy}
use Rattle.sf_lifetimes.specs.Inside.Counts.{CountedMap, AreChangedBut, holders_in, runs_of_births, last_births, lone_births, with_one_fewer}
use Rattle.sf_lifetimes.proofs.CountLemmas.{has_own, one_released, one_length}
use Rattle.sf_lifetimes.proofs.PlaceLemmas.{below_next, untouched_but, changed_but, unchanged_but, lone_apart, lone_there, lone_le, runs_apart}
use Rattle.sf_lifetimes.proofs.place_map.PlaceMap.release_old.Goals as goal
use Rattle.sf_lifetimes.proofs.place_map.PlaceMap.release_old.Goals.{then-not-stands_at, else-not-stands_at}

pub place_from-at-requires-clause-below : goal.place_from-at-requires-clause-below
place_from-at-requires-clause-below c = c.loop-k.invariant.below c.loop-k-test.true

pub release-requires-clause-held : goal.release-requires-clause-held
release-requires-clause-held c =
    let old = c.args.old.now in
    let k = c.loop-k.k in
    let same = untouched_but with_one_fewer c.args.self.now.held c.loop-k.self.held old c.args.new.now k c.requires.old c.loop-k-test.true c.loop-k.invariant.changed in
    subst (λ x. 1 ≤ holders_in x) (sym same) (c.requires.held (get_or old k 0) (has_own old k c.loop-k-test.true))

pub release-requires-clause-room : goal.release-requires-clause-room
release-requires-clause-room c =
    let m = c.args.self.now.held in
    let old = c.args.old.now in
    let new = c.args.new.now in
    let k = c.loop-k.k in
    let same = untouched_but with_one_fewer m c.loop-k.self.held old new k c.requires.old c.loop-k-test.true c.loop-k.invariant.changed in
    let apart = sym c.stands_at.ensures ∙ c.if-not-stands_at.true in
    let more = ap (λ (l : List ℕ). length l) (lone_apart m new old k c.loop-k-test.true apart) in
    omega (arith, more, length-append (lone_births m new (take k old)) (last_births m (get_or old k 0 ∷ [])), one_length m c.loop-k.self.held (get_or old k 0) same, one_length m m (get_or old k 0) refl, lone_le m new old (k + 1), c.requires.room, c.loop-k.invariant.into_spare)

pub loop-k-preserved : goal.loop-k-preserved
loop-k-preserved c =
    let old = c.args.old.now in
    let new = c.args.new.now in
    let k = c.loop-k.k in
    let m = c.args.self.now.held in
    let n = c.loop-k.self.held in
    let b = get_or old k 0 in
    let start = c.args.into.now.held in
    let before = c.loop-k.invariant.changed in
    let below = below_next new old c.place_from-at.result k c.requires.old c.place_from-at.ensures.below in
    let same = untouched_but with_one_fewer m n old new k c.requires.old c.loop-k-test.true before in
    elim c.if-not-stands_at.branch [
      | then-not-stands_at w ↦
          let apart = sym c.stands_at.ensures ∙ w.if-not-stands_at.true in
          let more = ap (λ (l : List ℕ). length l) (lone_apart m new old k c.loop-k-test.true apart) in
          record {
            within = c.place_from-at.ensures.within;
            below = below;
            changed = subst (λ (s : Roomy CountedMap). AreChangedBut with_one_fewer m (take (k + 1) old) new s.held) (sym w.self-is)
                (changed_but with_one_fewer m n w.release.new.self.held old new k c.requires.old c.loop-k-test.true before apart w.release.ensures.changed);
            into = ap (λ (s : Roomy (List BirthRuns)). s.held) w.into-is
                ∙ w.release.ensures.into
                ∙ ap (λ (xs : List BirthRuns). c.loop-k.into.held ++ xs) (one_released m n b same)
                ∙ ap (λ (xs : List BirthRuns). xs ++ runs_of_births m (last_births m (b ∷ []))) c.loop-k.invariant.into
                ∙ append_assoc start (runs_of_births m (lone_births m new (take k old))) (runs_of_births m (last_births m (b ∷ [])))
                ∙ ap (λ (xs : List BirthRuns). start ++ xs) (sym (runs_apart m new old k c.loop-k-test.true apart));
            spare = omega (arith, ap (λ (s : Roomy CountedMap). s.spare) w.self-is, c.loop-k.invariant.spare, w.release.ensures.spare);
            into_spare = omega (arith, ap (λ (s : Roomy (List BirthRuns)). s.spare) w.into-is, c.loop-k.invariant.into_spare, w.release.ensures.into_spare, more, length-append (lone_births m new (take k old)) (last_births m (b ∷ [])), one_length m n b same, one_length m m b refl);
          }
      | else-not-stands_at w ↦
          let there = sym c.stands_at.ensures ∙ w.if-not-stands_at.false in
          let alike = lone_there m new old k c.loop-k-test.true there (c.requires.held b (has_own old k c.loop-k-test.true)) in
          record {
            within = c.place_from-at.ensures.within;
            below = below;
            changed = subst (λ (s : Roomy CountedMap). AreChangedBut with_one_fewer m (take (k + 1) old) new s.held) (sym w.self-is)
                (unchanged_but with_one_fewer m n old new k c.requires.old c.loop-k-test.true before there);
            into = ap (λ (s : Roomy (List BirthRuns)). s.held) w.into-is ∙ c.loop-k.invariant.into ∙ ap (λ (l : List ℕ). start ++ runs_of_births m l) (sym alike);
            spare = omega (arith, ap (λ (s : Roomy CountedMap). s.spare) w.self-is, c.loop-k.invariant.spare);
            into_spare = omega (arith, ap (λ (s : Roomy (List BirthRuns)). s.spare) w.into-is, c.loop-k.invariant.into_spare, ap (λ (l : List ℕ). length l) alike);
          }
    ]
