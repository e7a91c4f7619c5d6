use Rattle.std.proofs.Common.{◌≡◌, sym, ap, subst, ◌∙◌}
use Rattle.std.specs.Prelude.{IsTrue, IsSome}
use Rattle.sf_types.specs.declared.reply.Reply.{Reply}
use Rattle.sf_types.specs.Values.Marks.{Value}
use Rattle.sf_types.specs.Table.Parts.{Table}
use Rattle.sf_types.specs.Table.Sessions.{has_session, session_of, with_session}
use Rattle.sf_types.specs.Calls.LocatorCalls.{locator_named}
use Rattle.sf_types.specs.Calls.WritingCalls.{after_write}
use Rattle.sf_types.specs.Space.Publications.{with_contents, without_promise, settled_result}
use Rattle.sf_plain.proofs.publications.publish_write.Goals as goal

pub put_result-requires : goal.put_result-requires
put_result-requires c =
    let t = c.args.table.now in
    let s = c.args.s in
    let is = sym c.in_ok-value.ensures.table in
    record {
      session = subst (λ (u : Table). IsTrue (has_session u s)) is c.requires.session;
      there = subst (λ (u : Table). IsSome (locator_named (session_of u s) c.args.at.now)) is c.requires.there;
    }

pub returns : goal.returns
returns c =
    let t = c.args.table.now in
    let s = c.args.s in
    let at = c.args.at.now in
    let call = c.args.call.now in
    let value = c.in_ok-value.value in
    let done = with_session (with_contents t s call) s (after_write (without_promise (session_of t s)) at (settled_result t s (session_of t s) at call)) in
    let table : c.put_result.new.table ≡ done =
    c.in_ok-put_result.ensures
    ∙ ap (λ (u : Table). with_session u s (after_write (without_promise (session_of u s)) at value)) c.in_ok-value.ensures.table
    ∙ ap (λ (v : Value). with_session (with_contents t s call) s (after_write (without_promise (session_of t s)) at v)) c.in_ok-value.ensures.value in
    ap (λ (u : Table). (u, c.in_ok-reply.reply)) table ∙ ap (λ (r : Reply). (done, r)) c.in_ok-reply.ensures
