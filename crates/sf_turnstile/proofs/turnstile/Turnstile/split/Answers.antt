use Rattle.std.proofs.Common.{◌∙◌, ◌≡◌, ◌<◌, ap, sym, arith, false}
use Rattle.sf_turnstile.specs.declared.limits.TheConstants.{TURNSTILE_SPLITS}
use Rattle.sf_turnstile.specs.Sittings.{is_holding}
use Rattle.sf_turnstile.proofs.SplitLemmas.{splits}
use Rattle.sf_turnstile.proofs.SittingLemmas.{idle_is}
use Rattle.sf_turnstile.proofs.turnstile.Turnstile.split.Goals as goal

pub split_seat-new_seat-requires : goal.split_seat-new_seat-requires
split_seat-new_seat-requires g c =
    let v = c.seat.inside.seat.me.0 in
    let off : is_holding v.phase ≡ false = ap (λ s. s.has_value) c.seat.view_is ∙ c.requires.first.1 in
    let at = idle_is v.phase c.seat.inside.seat.me.1 c.seat.invariant.0 off in
    let few : v.splits < TURNSTILE_SPLITS = let h = c.requires.room in let e = ap (λ s. s.splits) c.seat.view_is in omega arith in (
      ap (λ s. s.id) c.seat.view_is ∙ (c.requires.turnstile ∙ sym c.self.view_is),
      (let w = c.self.invariant.0 in omega arith),
      splits g.B.Told.history _ v (ap (λ s. s.number) c.seat.view_is ∙ c.requires.first.0) at.0 few,
    )
