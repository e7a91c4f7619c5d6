use Rattle.std.proofs.Common.{◌∙◌, ◌≡◌, ap, sym, subst, arith, true, false, Contains}
use Rattle.sf_turnstile.specs.Sittings.{is_holding}
use Rattle.sf_turnstile.specs.Rule.{is_out, HasBothFronts}
use Rattle.sf_types.specs.Orders.Fronts.{entries_of}
use Rattle.sf_turnstile.proofs.JoinLemmas.{joins, compares}
use Rattle.sf_turnstile.proofs.SittingLemmas.{idle_is}
use Rattle.sf_turnstile.proofs.turnstile.Turnstile.join.Goals as goal

pub join_seat-requires : goal.join_seat-requires
join_seat-requires g c =
    let v = c.seat.inside.seat.me.0 in
    let w = c.other.inside.seat.me.0 in
    let off : is_holding v.phase ≡ false = ap (λ s. s.has_value) c.seat.view_is ∙ c.requires.first.1 in
    let at = idle_is v.phase c.seat.inside.seat.me.1 c.seat.invariant.0 off in
    let off' : is_holding w.phase ≡ false = ap (λ s. s.has_value) c.other.view_is ∙ c.requires.idle in
    let at' = idle_is w.phase c.other.inside.seat.me.1 c.other.invariant.0 off' in (
      ap (λ s. s.id) c.seat.view_is ∙ (c.requires.turnstile.0 ∙ sym c.self.view_is),
      ap (λ s. s.id) c.other.view_is ∙ (c.requires.turnstile.1 ∙ sym c.self.view_is),
      at'.1,
      (let n = c.self.invariant.0 in omega arith),
      joins g.B.Told.history _ _ v w (ap (λ s. s.number) c.seat.view_is ∙ c.requires.first.0) at.0 at'.0,
    )

pub load-requires : goal.load-requires
load-requires g c =
    let v = c.seat.inside.seat.me.0 in
    let off : is_holding v.phase ≡ false = ap (λ s. s.has_value) c.seat.view_is ∙ c.requires.first.1 in
    let at = idle_is v.phase c.seat.inside.seat.me.1 c.seat.invariant.0 off in
    let out : is_out c.join_seat.new.seat.me.0.phase ≡ true = ap (λ m. is_out m.0.phase) c.join_seat.ensures.2 ∙ ap is_out at.0 in (
      c.join_seat.ensures.0 ∙ (ap (λ s. s.id) c.seat.view_is ∙ (c.requires.turnstile.0 ∙ sym c.self.view_is)),
      (let n = c.self.invariant.0 in omega arith),
      compares g.B.Told.history _ _ _ out,
    )

pub returns-clause-joined : goal.returns-clause-joined
returns-clause-joined g c =
    let both = subst HasBothFronts (ap (λ m. m.0) c.join_seat.ensures.2) (c.load.ensures.2.1 (ap (λ m. m.0.just_joined) c.join_seat.ensures.2)) in
    λ s k. ap (λ m. entries_of s m.0.front) (c.load.ensures.2.0 ∙ c.join_seat.ensures.2) ∙ (both.joined s (subst (λ x. Contains x.joined_numbers s) (sym c.seat.view_is) k) ∙ ap (λ x. entries_of s x.front) c.seat.view_is)
