use Rattle.std.proofs.Common.{ap, sym, subst, ◌∙◌}
use Rattle.sf_types.specs.Halves.Asks.{Half}
use Rattle.sf_store_half.specs.Fields.{Keeps}
use Rattle.sf_store_half.specs.contracts.store_half.StoreHalf.{the_view}
use Rattle.sf_store_half.proofs.HalfPromiseLemmas.{carried_out, promise_by_view}
use Rattle.sf_store_half.proofs.store_half.StoreHalf.reserve.Goals as goal

pub carry_out-requires-clause-decision : goal.carry_out-requires-clause-decision
carry_out-requires-clause-decision c =
    carried_out (the_view c.self.inside) c.args.self.now c.self.inside.promised c.args.session c.args.births c.args.flush.now c.as_slice.result.now c.in_ok-decision.decision c.self.view_is c.self.invariant
    (c.as_slice.ensures.value ∙ c.in_ok-cuts.ensures) c.in_ok-decision.ensures

pub returns-clause-kept : goal.returns-clause-kept
returns-clause-kept c h keeps =
    let same = promise_by_view (the_view c.self.inside) c.args.self.now c.self.inside.promised c.args.session c.args.births c.args.flush.now c.as_slice.result.now c.in_ok-decision.decision c.self.view_is c.self.invariant
    (c.as_slice.ensures.value ∙ c.in_ok-cuts.ensures) c.in_ok-decision.ensures h c.next_birth-sound.ensures.sound keeps c.requires.session c.requires.births in
    subst (λ (x : Half). Keeps c.carry_out.new.self x) (sym (ap (λ p. p.0) same)) (c.in_ok-verdict.ensures.kept h keeps)

pub returns-clause-verdict : goal.returns-clause-verdict
returns-clause-verdict c h keeps =
    let same = promise_by_view (the_view c.self.inside) c.args.self.now c.self.inside.promised c.args.session c.args.births c.args.flush.now c.as_slice.result.now c.in_ok-decision.decision c.self.view_is c.self.invariant
    (c.as_slice.ensures.value ∙ c.in_ok-cuts.ensures) c.in_ok-decision.ensures h c.next_birth-sound.ensures.sound keeps c.requires.session c.requires.births in
    c.in_ok-verdict.ensures.verdict ∙ sym (ap (λ p. p.1) same)
