use Rattle.std.proofs.Common.{◌≡◌, None, sym, ap, subst, ◌∙◌}
use Rattle.sf_session.specs.Inside.Standings.{AreBirths, IsStanding}
use Rattle.sf_session.proofs.NeedLemmas.{idle_need}
use Rattle.sf_session.proofs.StandingLemmas.{none_stands}
use Rattle.sf_session.proofs.session_core.SessionCore.start.Goals as goal

pub invariant_of-self-in-Err : goal.invariant_of-self-in-Err
invariant_of-self-in-Err c =
    let i = c.self.inside in
    let made = c.prepare_end in
    let none = none_stands i.standing (ap (λ v. v.standing) c.self.view_is ∙ (idle_need c.args.self.now c.requires).standing) in (
      subst (λ o. AreBirths o made.new.births) (sym made.ensures.own) made.ensures.births,
      subst (IsStanding i.gather made.new.own made.new.pending.spare i.phase) (sym none) tt,
    )
