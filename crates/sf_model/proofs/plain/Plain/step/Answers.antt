use Rattle.sf_model.proofs.TableLemmas.{call_left}
use Rattle.sf_model.proofs.plain.Plain.step.Goals as goal

pub returns-clause-refused : goal.returns-clause-refused
returns-clause-refused c fault is =
    call_left c.args.self.now c.call.new.self c.args.token.session c.args.call.now c.in_ok-reply-in-Call.reply fault c.requires.legal.session c.in_ok-reply-in-Call.ensures.ok is
