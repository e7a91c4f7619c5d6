use Rattle.std.proofs.Common.{ap, sym, Option}
use Rattle.std.specs.Option.{option_copied}
use Rattle.sf_types.specs.declared.reply.Fault.{Fault}
use Rattle.sf_types.specs.declared.reply.Reply.TheVariants as reply
use Rattle.sf_types.specs.Calls.Refusals.{refusal_or}
use Rattle.sf_types.specs.declared.call.Call.TheVariants.{WriteAppend}
use Rattle.sf_types.specs.Values.Marks.{size_of}
use Rattle.sf_types.specs.Calls.Arguments.{argument_refusals}
use Rattle.sf_types.specs.Calls.WritingCalls.{writing_refusals, old_value, source_value, result_of, after_write, names_in}
use Rattle.sf_model.proofs.RefusalLemmas.{first_of-append}
use Rattle.sf_model.proofs.session.Session.write_append.Goals as goal

pub returns-in-Err-clause-ok : goal.returns-in-Err-clause-ok
returns-in-Err-clause-ok c =
    let p = c.args.self.now in
    let current = option_copied c.args.current in
    let at = c.args.at.now in
    let call = WriteAppend at c.args.buffer.now in
    let refusals = argument_refusals call (size_of (old_value p current at)) (size_of (source_value p call)) in
    let is = first_of-append (writing_refusals p c.args.is_held current at (names_in at call)) refusals c.in-Err.fault c.in-Err.ensures in
    ap (λ (o : Option Fault). refusal_or o p (after_write p at (result_of p current at call), reply.Done)) (sym is)
