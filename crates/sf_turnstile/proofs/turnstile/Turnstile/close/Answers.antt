use Rattle.std.proofs.Common.{◌∙◌, ◌≡◌, ap, sym, false, Some}
use mathlib.Core.Option.{some-injective}
use Rattle.sf_turnstile.specs.Sittings.{is_holding}
use Rattle.sf_turnstile.proofs.SittingLemmas.{idle_is}
use Rattle.sf_turnstile.proofs.ClosingLemmas.{at_end}
use Rattle.sf_turnstile.proofs.turnstile.Turnstile.close.Goals as goal

pub unreachable-requires : goal.unreachable-requires
unreachable-requires g c =
    let v = c.seat.inside.seat.me.0 in
    let off : is_holding v.phase ≡ false = ap (λ s. s.has_value) c.seat.view_is ∙ c.requires.first.1 in
    let at = idle_is v.phase c.seat.inside.seat.me.1 c.seat.invariant.0 off in
    let t = at_end g.B.Told.history _ _ _ v c.close_with-closed.ensures.values.2 (ap (λ s. s.number) c.seat.view_is ∙ c.requires.first.0) at.0 (ap (λ s. s.others_out) c.seat.view_is ∙ c.requires.last) in
    c.in_default.not-Some t.0 (some-injective _ _ (sym c.take-found.ensures.value ∙ t.1))

some_is : {A : Type 0} (x y : A) → Some x ≡ Some y → x ≡ y
some_is x y e = cc e

pub returns : goal.returns
returns g c =
    let v = c.seat.inside.seat.me.0 in
    let off : is_holding v.phase ≡ false = ap (λ s. s.has_value) c.seat.view_is ∙ c.requires.first.1 in
    let at = idle_is v.phase c.seat.inside.seat.me.1 c.seat.invariant.0 off in
    let t = at_end g.B.Told.history _ _ _ v c.close_with-closed.ensures.values.2 (ap (λ s. s.number) c.seat.view_is ∙ c.requires.first.0) at.0 (ap (λ s. s.others_out) c.seat.view_is ∙ c.requires.last) in
    let is = some_is c.in-Some.value t.0 (sym c.in-Some.is ∙ some-injective _ _ (sym c.take-found.ensures.value ∙ t.1)) in
    ap g.B.Told.history is ∙ (t.2 ∙ ap (λ s. s.front) c.seat.view_is)
