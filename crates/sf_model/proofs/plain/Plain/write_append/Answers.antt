use Rattle.std.proofs.Common.{sym, ap, ◌∙◌}
use Rattle.std.specs.Option.{option_copied}
use Rattle.sf_types.specs.declared.reply.Fault.TheVariants as fault
use Rattle.sf_types.specs.declared.reply.Reply.TheVariants as reply
use Rattle.sf_types.specs.Table.Sessions.{session_of, holds_lock}
use Rattle.sf_types.specs.declared.call.Call.TheVariants.{WriteAppend}
use Rattle.sf_types.specs.Calls.LocatorCalls.{locator_named, locator}
use Rattle.sf_types.specs.Calls.WritingCalls.{write_call}
use Rattle.sf_types.specs.Table.Versions.{current_value}
use Rattle.sf_model.specs.contracts.plain.Plain.{the_view}
use Rattle.sf_model.proofs.TableLemmas.{session_at, none_named, row_of_named, put_own, append_unknown, append_done_in}
use Rattle.sf_model.proofs.plain.Plain.write_append.Goals as goal

pub returns-in_default-clause-ok : goal.returns-in_default-clause-ok
returns-in_default-clause-ok c =
    let t = c.args.self.now in
    let s = c.args.session in
    let p = session_of t s in
    let at = c.args.at.now in
    let row = (locator p at).row in
    let none = none_named (locator_named p at) (sym c.in_ok-row.ensures ∙ c.in_default.is) in
    put_own t s (reply.Refused fault.UnknownLocator) (write_call p (holds_lock t.locks s row) (current_value t row) at (WriteAppend at c.args.buffer.now)) c.requires
    (append_unknown p (holds_lock t.locks s row) (current_value t row) at c.args.buffer.now none)

pub returns-clause-ok : goal.returns-clause-ok
returns-clause-ok c =
    let t = the_view c.self.inside in
    let s = c.args.session in
    let row = c.in-Some.row in
    let value = option_copied c.value_in-current.result in
    let has = rw (← c.self.view_is) at c.requires in
    let part = session_at t s c.index_mut-part.result.now has c.index_mut-part.ensures.value in
    let found = rw (← c.self.view_is) at (sym c.in_ok-row.ensures ∙ c.in-Some.is) in
    let done = c.in_ok-reply.ensures.ok ∙ ap (λ p. write_call p c.holds-is_held.result value c.args.at.now (WriteAppend c.args.at.now c.args.buffer.now)) part in
    append_done_in c.args.self.now t s c.args.at.now c.args.buffer.now row c.holds-is_held.result value c.write_append.new.self c.in_ok-reply.reply c.self.view_is done c.holds-is_held.ensures (c.value_in-current.ensures ∙ c.self.invariant.same row) (row_of_named (locator_named (session_of t s) c.args.at.now) row found)
