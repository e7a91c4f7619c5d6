use Rattle.std.proofs.Common.{◌≡◌, Err, sym, ap, ◌∙◌, arith}
use Rattle.sf_script.specs.Lines.{lines_of}
use Rattle.sf_script.specs.Inside.Readings.{next_reading}
use Rattle.sf_script.specs.Scripts.{script_from}
use Rattle.sf_script.specs.Inside.Views.{text_line}
use Rattle.sf_script.proofs.StepLemmas.{line_goes_on, lines_end, at_end}
use Rattle.sf_script.proofs.parser.script_of_lines.Goals as goal

pub returns-in-Err-Refused-clause-exact : goal.returns-in-Err-Refused-clause-exact
returns-in-Err-Refused-clause-exact c =
    let stop : next_reading c.loop-line.reading (text_line c.in-Some.line) ≡ Err c.in-Err-Refused.reason = rw c.in-Err-Refused.field-0-is at c.in-Err-Refused.ensures in
    let wrong = lines_end c.loop-line.number c.loop-line.reading c.in-Err-Refused.reason (text_line c.in-Some.line) (lines_of c.in-Some.after.now) stop in
    let here = ap (script_from c.loop-line.number c.loop-line.reading) c.in-Some.ensures.lines in
    rw c.in-Err-Refused.reason-is (sym (here ∙ wrong) ∙ c.loop-line.invariant.0)

pub loop-line-preserved : goal.loop-line-preserved
loop-line-preserved c =
    let right = line_goes_on c.loop-line.number c.loop-line.reading c.in-Ok.next (text_line c.in-Some.line) (lines_of c.in-Some.after.now) c.in-Ok.ensures in
    let here = ap (script_from c.loop-line.number c.loop-line.reading) c.in-Some.ensures.lines in
    (sym (here ∙ right) ∙ c.loop-line.invariant.0, omega (arith, c.in-Some.ensures.shorter))

pub returns-clause-exact : goal.returns-clause-exact
returns-clause-exact c =
    let here = ap (script_from c.loop-line.number c.loop-line.reading) c.in_default.ensures.lines in
    c.script_at_end.ensures.exact ∙ sym (here ∙ at_end c.loop-line.number c.loop-line.reading) ∙ c.loop-line.invariant.0
