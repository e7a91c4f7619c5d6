use Rattle.std.proofs.Common.{◌≡◌, Some, sym, ap, ◌∙◌}
use Rattle.std.specs.Option.{option_map}
use Rattle.sf_session.proofs.NeedLemmas.{event_need}
use Rattle.sf_session.proofs.session_core.SessionCore.ask.Goals as goal

pub event_parts-requires : goal.event_parts-requires
event_parts-requires c =
    let standing = ap (λ v. v.standing) (sym c.self.view_is) ∙ ap (option_map (λ x. x.call)) c.in-Some.is in
    (event_need c.args.self.now c.in-Some.standing.call standing c.requires).event_is
