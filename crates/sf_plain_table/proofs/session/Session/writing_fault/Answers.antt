use Rattle.std.proofs.Common.{sym, ◌∙◌}
use Rattle.std.specs.Option.{option_copied}
use Rattle.sf_types.specs.Values.Marks.{size_of}
use Rattle.sf_types.specs.Calls.Arguments.{argument_refusals}
use Rattle.sf_types.specs.Calls.WritingCalls.{writing_refusals, names_in, source_value, old_value}
use Rattle.sf_plain_table.proofs.RefusalLemmas.{refused_first}
use Rattle.sf_plain_table.proofs.session.Session.writing_fault.Goals as goal

pub returns-in-Some-clause-fault : goal.returns-in-Some-clause-fault
returns-in-Some-clause-fault c =
    let p = c.args.self.now in
    let current = option_copied c.args.current in
    let at = c.args.at.now in
    let call = c.args.call.now in
    sym (refused_first (writing_refusals p c.args.is_held current at (names_in at call)) (argument_refusals call (size_of (old_value p current at)) (size_of (source_value p call))) c.in-Some.fault (sym c.write_fault.ensures.fault ∙ c.in-Some.is))
