use Rattle.std.proofs.Common.{◌∙◌, ◌≡◌, ap, sym, subst, arith, ◌∷◌, Some, true}
use Rattle.atomic_table.specs.Table.{rest}
use Rattle.sf_turnstile.specs.Continuations.{Continues}
use Rattle.sf_turnstile.specs.Sittings.{is_holding}
use Rattle.sf_turnstile.proofs.HandOnLemmas.{hands_on}
use Rattle.sf_turnstile.proofs.SittingLemmas.{holding_is}
use Rattle.sf_turnstile.proofs.turnstile.Turnstile.hand_on.Goals as goal

pub fetch_add-served-requires : goal.fetch_add-served-requires
fetch_add-served-requires g c =
    let history_of = g.B.Told.history in
    let v = c.seat.inside.seat.me.0 in
    let b = c.into_value-value.result in
    let on : is_holding v.phase ≡ true = ap (λ s. s.has_value) c.seat.view_is ∙ c.requires.holds in
    let at = holding_is v.phase c.seat.inside.seat.me.1 c.seat.invariant.0 on in
    let is = c.exchange-left.ensures.3 ∙ ap (λ l. (v, (0, Some b) ∷ rest l)) at.2 in
    let goes : Continues v.number v.front (history_of b) = subst (λ s. Continues s.number s.front (history_of b)) (sym c.seat.view_is) (subst (λ x. Continues c.args.seat.now.number c.args.seat.now.front (history_of x)) (sym c.into_value-value.ensures) c.requires.history) in (
      c.exchange-left.ensures.0 ∙ (ap (λ s. s.id) c.seat.view_is ∙ (c.requires.turnstile ∙ sym c.self.view_is)),
      (let w = c.self.invariant.0 in omega arith),
      hands_on history_of _ _ at.0 _ v b is at.1 goes,
    )
