use Rattle.std.proofs.Common.{sym}
use Rattle.sf_script.specs.Inside.Views.{text_line, line_view}
use Rattle.sf_script.proofs.FollowLemmas.{is_form_after}
use Rattle.sf_script.proofs.StepLemmas.{stopped_early, stopped_by_form, by_form}
use Rattle.sf_script.proofs.parser.read_line.Goals as goal

pub returns-in-Some : goal.returns-in-Some
returns-in-Some c = stopped_early c.args.reading (text_line c.args.line) c.in-Some.reason (sym c.in-Some.ensures)

pub read_form-requires : goal.read_form-requires
read_form-requires c = is_form_after c.args.reading c.args.line.text.now (line_view c.in-Ok.form) c.in-Ok.ensures

pub returns-in-Ok : goal.returns-in-Ok
returns-in-Ok c =
    rw (by_form c.args.reading (text_line c.args.line) (line_view c.in-Ok.form) (sym c.in_default.ensures) c.in-Ok.ensures) c.read_form.ensures

pub returns-in-Err-NoForm : goal.returns-in-Err-NoForm
returns-in-Err-NoForm c =
    stopped_by_form c.args.reading (text_line c.args.line) (sym c.in_default.ensures) (rw c.in-Err-NoForm.field-0-is at c.in-Err-NoForm.ensures)
