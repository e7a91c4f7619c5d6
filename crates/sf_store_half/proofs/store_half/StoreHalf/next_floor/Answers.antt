use Rattle.std.proofs.Common.{◌≡◌, ◌≤◌, true, false, sym, ap, subst, ◌∙◌, arith}
use Rattle.std.specs.Prelude.{nat_le, slice_get}
use Rattle.std.specs.List.{AllByRecursion as Each}
use Rattle.std.proofs.lemmas.Bool.Decides.{nat_tests}
use Rattle.sf_retention.proofs.NoteLemmas.{IsInOrder}
use Rattle.sf_store_half.specs.Fields.{Fields}
use Rattle.sf_store_half.specs.contracts.store_half.StoreHalf.{the_view}
use Rattle.sf_store_half.proofs.FloorTrialLemmas.{last_trial_is, next_floor_is}
use Rattle.sf_store_half.proofs.OnceLemmas.{each_until_now}
use Rattle.sf_store_half.proofs.store_half.StoreHalf.next_floor.Goals as goal

pub returns-in-Some-clause-next : goal.returns-in-Some-clause-next
returns-in-Some-clause-next c =
    let f = c.args.self.now in
    let t = c.args.trial.now in
    let notes = ap (λ (x : Fields). x.notes) c.self.view_is in
    let high = c.if-trial.false in
    let fails : nat_le t.wanted t.free ≡ false = grind (arith, nat_tests, high) in
    let rises : f.options.max ≡ true = ap (λ (x : Fields). x.options.max) (sym c.self.view_is) ∙ search in
    next_floor_is f t c.in-Some.note.now (subst IsInOrder notes c.get.ensures.rising)
    (subst (λ (x : Fields). Each (λ n. n.until ≤ x.versions.now) x.notes) c.self.view_is (each_until_now (the_view c.self.inside) c.self.invariant.half c.self.invariant.keeps))
    c.requires.due (ap (λ ns. slice_get ns t.due) (sym notes) ∙ sym c.in-Some.ensures.note) fails rises

pub returns-in-None-clause-none : goal.returns-in-None-clause-none
returns-in-None-clause-none c =
    let f = c.args.self.now in
    let t = c.args.trial.now in
    let notes = ap (λ (x : Fields). x.notes) c.self.view_is in
    last_trial_is f t (subst IsInOrder notes c.get.ensures.rising) c.requires.due (ap (λ ns. slice_get ns t.due) (sym notes) ∙ sym c.in-None.ensures.note)
