use Rattle.std.proofs.Common.{sym, ap, subst, ◌∙◌}
use Rattle.std.specs.Prelude.{IsSome}
use Rattle.sf_types.specs.Table.Parts.{Session}
use Rattle.sf_types.specs.Table.Sessions.{with_session}
use Rattle.sf_types.specs.Calls.LocatorCalls.{locator_named}
use Rattle.sf_types.specs.Calls.WritingCalls.{after_write}
use Rattle.sf_types.specs.Space.Publications.{without_promise}
use Rattle.sf_plain.proofs.publications.put_result.Goals as goal

pub written_part-requires : goal.written_part-requires
written_part-requires c = subst (λ (p : Session). IsSome (locator_named p c.args.at.now)) (sym c.part.ensures) c.requires.there

pub put_part-requires : goal.put_part-requires
put_part-requires c = c.requires.session

pub returns : goal.returns
returns c =
    c.put_part.ensures
    ∙ ap (with_session c.args.table.now c.args.s) (c.in_ok-part.ensures ∙ ap (λ (p : Session). after_write (without_promise p) c.args.at.now c.args.value) c.part.ensures)
