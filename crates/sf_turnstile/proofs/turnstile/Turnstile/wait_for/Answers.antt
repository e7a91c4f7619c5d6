use Rattle.std.proofs.Common.{◌∙◌, ◌≡◌, ap, sym, arith}
use Rattle.sf_turnstile.specs.declared.view.Phase.TheVariants.{Waits}
use Rattle.sf_turnstile.proofs.LookLemmas.{looks}
use Rattle.sf_turnstile.proofs.turnstile.Turnstile.wait_for.Goals as goal

pub load-serving-requires : goal.load-serving-requires
load-serving-requires g c =
    let same = c.loop.invariant.1 in
    let waits : c.loop.seat.me.0.phase ≡ Waits c.args.ticket = ap (λ m. m.0.phase) c.loop.invariant.3 ∙ c.requires.waits.0 in (
      same ∙ (c.requires.turnstile ∙ sym c.self.view_is),
      (let w = c.self.invariant.0 in omega arith),
      looks g.B.Told.history _ _ _ _ waits,
    )
