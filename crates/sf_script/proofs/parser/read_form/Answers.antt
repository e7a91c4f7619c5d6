use Rattle.std.proofs.Common.{sym}
use Rattle.sf_script.specs.Inside.Views.{line_view}
use Rattle.sf_script.proofs.FollowLemmas.{can_follow}
use Rattle.sf_script.proofs.StepLemmas.{with_reason, with_none}
use Rattle.sf_script.proofs.parser.read_form.Goals as goal

pub after_form-requires : goal.after_form-requires
after_form-requires c = can_follow c.args.reading (line_view c.args.form) c.requires (sym c.in-None.ensures)

pub returns-in-Some : goal.returns-in-Some
returns-in-Some c = with_reason c.args.reading (line_view c.args.form) c.in-Some.reason (sym c.in-Some.ensures)

pub returns-in-Ok : goal.returns-in-Ok
returns-in-Ok c = with_none c.args.reading (line_view c.args.form) c.in-Ok.next (sym c.in-None.ensures) c.in-Ok.ensures
