use Rattle.std.proofs.Common.{IsTrue, IfOk}
use Rattle.sf_script.specs.Parts.{IsScript}
use Rattle.sf_script.specs.Scripts.{script_of}
use Rattle.sf_program.specs.Inputs.{IsReadAs}
use Rattle.sf_program.specs.Program.{is_play}
use Rattle.sf_program.proofs.AnswerLemmas.{if_both, if_all, played_out, refused_out, done_play, refused_play}
use Rattle.sf_program.proofs.program.securefiles_plain.Goals as goal

pub returns-in-Ok-write_output-clause-done : goal.returns-in-Ok-write_output-clause-done
returns-in-Ok-write_output-clause-done g c done =
    let words = c.args.words.now in
    let answer = c.in-Ok.answer.status in
    let text = c.in-Ok.answer.text.items in
    let left = g.S.Source.left c.answer_words.new.source in
    let before = g.K.Sink.taken c.args.sink.now in
    let after = g.K.Sink.taken c.write_output.new.sink in
    let play = done_play words answer text c.in-Ok.ensures.words done in
    let grew = rw c.deref.ensures.value at c.in-Ok-write_output.ensures.whole in
    if_all (g.S.Source.left c.args.source.now) _ (λ input. IsTrue (is_play words) → IfOk (script_of input) IsScript) (λ input. IsTrue (is_play words) → IsReadAs (script_of input) input left) _
    (λ input due holds read. played_out words input left before after answer text play done due (holds play) (read play) grew)
    c.in-Ok.ensures.due c.in-Ok.ensures.script c.in-Ok.ensures.ended

pub returns-in-Ok-write_output-clause-script_refused : goal.returns-in-Ok-write_output-clause-script_refused
returns-in-Ok-write_output-clause-script_refused g c refused =
    let words = c.args.words.now in
    let answer = c.in-Ok.answer.status in
    let text = c.in-Ok.answer.text.items in
    let left = g.S.Source.left c.answer_words.new.source in
    let before = g.K.Sink.taken c.args.sink.now in
    let after = g.K.Sink.taken c.write_output.new.sink in
    let play = refused_play words answer text c.in-Ok.ensures.words refused in
    let grew = rw c.deref.ensures.value at c.in-Ok-write_output.ensures.whole in (
      play,
      if_both (g.S.Source.left c.args.source.now) _ (λ input. IsTrue (is_play words) → IsReadAs (script_of input) input left) _
          (λ input due read. refused_out words input left before after answer text play refused due (read play) grew)
          c.in-Ok.ensures.due c.in-Ok.ensures.ended,
    )
