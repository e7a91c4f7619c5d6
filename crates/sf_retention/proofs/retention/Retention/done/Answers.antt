use Rattle.std.proofs.Common.{◌≡◌, ◌∙◌, ap, sym, subst, arith, drop}
use Rattle.std.proofs.lemmas.List.{drop-drop}
use Rattle.std.proofs.lemmas.List.Sorted.{IsNonDecreasingBy-drop}
use Rattle.sf_retention.proofs.NoteLemmas.{IsInOrder}
use Rattle.sf_retention.proofs.retention.Retention.done.Goals as goal

pub invariant_of-self : goal.invariant_of-self
invariant_of-self c =
    subst IsInOrder (sym c.loop.invariant.items) (IsNonDecreasingBy-drop (λ note. note.until) c.loop.counter c.self.inside.notes.items c.self.invariant)

pub loop-preserved : goal.loop-preserved
loop-preserved c = record {
  items = c.pop_front.ensures.rest ∙ ap (drop 1) c.loop.invariant.items ∙ drop-drop 1 c.loop.counter c.self.inside.notes.items;
  capacity = c.pop_front.ensures.capacity ∙ c.loop.invariant.capacity;
  fewer = omega (arith, c.pop_front.ensures.len, c.loop.invariant.fewer);
}

pub returns-clause-held : goal.returns-clause-held
returns-clause-held c =
    let at : c.loop.counter ≡ c.args.count = omega arith in
    c.loop.invariant.items ∙ ap (λ k. drop k c.self.inside.notes.items) at ∙ ap (λ v. drop c.args.count v.held) c.self.view_is

pub returns-clause-spare : goal.returns-clause-spare
returns-clause-spare c = omega (arith, c.loop.invariant.capacity, c.loop.invariant.fewer, ap (λ v. v.spare) c.self.view_is)
