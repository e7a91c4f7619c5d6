use Rattle.std.proofs.Common.{◌≡◌, inl, inr, Option, Some, sym, ap, subst, ◌∙◌}
use Rattle.std.specs.Option.{option_map}
use Rattle.sf_own_part.specs.Ends.{IsKnown}
use Rattle.sf_session.specs.declared.phase.Phase.TheVariants.{Unpromised}
use Rattle.sf_session.proofs.NeedLemmas.{event_need, publish_need}
use Rattle.sf_session.proofs.StandingLemmas.{stands, due_where, due_unknown, never_refused}
use Rattle.sf_session.proofs.session_core.SessionCore.accept.Goals as goal

pub end_call-reply-requires-clause-known : goal.end_call-reply-requires-clause-known
end_call-reply-requires-clause-known c known =
    let i = c.self.inside in
    let core = c.args.self.now in
    let s = c.in-Some.standing in
    let found : i.standing ≡ Some s = sym c.take.ensures.value ∙ c.in-Some.is in
    let standing : core.standing ≡ Some s.call = ap (λ v. v.standing) (sym c.self.view_is) ∙ ap (option_map (λ x. x.call)) found in
    let can = stands i.gather i.own i.pending.spare i.phase i.standing s found c.self.invariant.1 in
    elim c.requires.need [
      | inl event ↦ c.requires.known s.call standing event (subst (λ v. IsKnown v.own s.call) c.self.view_is known)
      | inr publish ↦
          let apart = subst (λ v. v.phase ≡ Unpromised → ⊥) (sym c.self.view_is) (publish_need core s.call standing publish).phase in
          absurd (due_unknown i.gather i.own.held s.call (due_where i.gather i.own i.pending.spare i.phase s can apart) known)
    ]

pub end_call-reply-requires-clause-refusal : goal.end_call-reply-requires-clause-refusal
end_call-reply-requires-clause-refusal c refusal =
    let i = c.self.inside in
    let core = c.args.self.now in
    let s = c.in-Some.standing in
    let found : i.standing ≡ Some s = sym c.take.ensures.value ∙ c.in-Some.is in
    let standing : core.standing ≡ Some s.call = ap (λ v. v.standing) (sym c.self.view_is) ∙ ap (option_map (λ x. x.call)) found in
    let can = stands i.gather i.own i.pending.spare i.phase i.standing s found c.self.invariant.1 in
    elim c.requires.need [
      | inl event ↦ never_refused i.gather i.own.held s.call s.prepared (inl (event_need core s.call standing event).event_is) can.prepared refusal
      | inr publish ↦
          let apart = subst (λ v. v.phase ≡ Unpromised → ⊥) (sym c.self.view_is) (publish_need core s.call standing publish).phase in
          never_refused i.gather i.own.held s.call s.prepared (inr (due_where i.gather i.own i.pending.spare i.phase s can apart)) can.prepared refusal
    ]
