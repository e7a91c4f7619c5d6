use Rattle.std.proofs.Common.{◌≡◌, true, IfOk, Result, ap, refl, sym, subst, ◌∙◌}
use Rattle.sf_script.specs.Parts.{IsScript, ScriptParts}
use Rattle.sf_script.specs.declared.fault.ScriptFault.{ScriptFault}
use Rattle.sf_script.specs.Scripts.{script_of}
use Rattle.sf_program.specs.Program.{is_play, status_of, output_of}
use Rattle.sf_program.specs.Inputs.{IsRead}
use Rattle.sf_program.proofs.AnswerLemmas.{if_some, script_read, read_as}
use Rattle.sf_program.proofs.program.answer_words.Goals as goal

pub returns-clause-due : goal.returns-clause-due
returns-clause-due g c =
    let after = g.S.Source.left c.read_input.new.source in
    let bytes = c.in-Ok.input.items in
    let play : is_play c.args.words.now ≡ true = sym c.is_play.ensures ∙ c.if-not-is_play.false in
    if_some (g.S.Source.left c.args.source.now) (λ input. IsRead input after bytes) _
    (λ input read.
    let same = ap script_of c.deref.ensures.value ∙ script_read input bytes after read in
    (rw play (c.in_ok-answer.ensures.status ∙ ap status_of same), rw play (c.in_ok-answer.ensures.text ∙ ap output_of same)))
    c.in-Ok.ensures.read

pub returns-clause-ended : goal.returns-clause-ended
returns-clause-ended g c =
    let after = g.S.Source.left c.read_input.new.source in
    let bytes = c.in-Ok.input.items in
    if_some (g.S.Source.left c.args.source.now) (λ input. IsRead input after bytes) _
    (λ input read play. read_as input after (script_of input) refl read.others)
    c.in-Ok.ensures.read

pub returns-clause-script : goal.returns-clause-script
returns-clause-script g c =
    let after = g.S.Source.left c.read_input.new.source in
    let bytes = c.in-Ok.input.items in
    if_some (g.S.Source.left c.args.source.now) (λ input. IsRead input after bytes) _
    (λ input read play. subst (λ (r : Result ScriptParts ScriptFault). IfOk r IsScript) (ap script_of c.deref.ensures.value ∙ script_read input bytes after read) c.in_ok-answer.ensures.script)
    c.in-Ok.ensures.read
