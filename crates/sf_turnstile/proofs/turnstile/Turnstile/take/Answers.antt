use Rattle.std.proofs.Common.{◌∙◌, ◌≡◌, ap, sym, arith, ◌∷◌, Some, false}
use Rattle.atomic_table.specs.Table.{rest}
use Rattle.sf_turnstile.specs.Sittings.{is_holding}
use Rattle.sf_turnstile.proofs.DrawLemmas.{draws}
use Rattle.sf_turnstile.proofs.SittingLemmas.{idle_is}
use Rattle.sf_turnstile.proofs.turnstile.Turnstile.take.Goals as goal

pub fetch_add-ticket-requires : goal.fetch_add-ticket-requires
fetch_add-ticket-requires g c =
    let v = c.seat.inside.seat.me.0 in
    let off : is_holding v.phase ≡ false = ap (λ s. s.has_value) c.seat.view_is ∙ c.requires.idle in
    let at = idle_is v.phase c.seat.inside.seat.me.1 c.seat.invariant.0 off in (
      ap (λ s. s.id) c.seat.view_is ∙ (c.requires.turnstile ∙ sym c.self.view_is),
      (let w = c.self.invariant.0 in omega arith),
      draws g.B.Told.history _ _ _ at.0,
    )

pub exchange-found-requires : goal.exchange-found-requires
exchange-found-requires g c =
    let t = c.wait_for.ensures.slot in
    let e = ap (λ m. m.1) t.2 in (
      c.wait_for.ensures.same.0 ∙ (c.fetch_add-ticket.ensures.0 ∙ (ap (λ s. s.id) c.seat.view_is ∙ (c.requires.turnstile ∙ sym c.self.view_is))),
      (Some t.0, e ∙ ap (λ l. (0, Some t.0) ∷ rest l) (sym e)),
    )
