use Rattle.std.proofs.Common.{◌≡◌, ◌-◌, ◌≤◌, ◌<◌, false, [], length, sym, subst, arith}
use Rattle.std.proofs.lemmas.List.{get_or_read}
use Rattle.sf_script_calls.specs.Calls.{payload_length}
use Rattle.sf_script.specs.Parts.{ScriptParts}
use Rattle.sf_script.specs.Reasons.{passes_call_limit}
use Rattle.sf_script.proofs.DraftLemmas.{with_call_is_draft}
use Rattle.sf_script.proofs.reading.Draft.with_call.Goals as goal

pub invariant_of-result : goal.invariant_of-result
invariant_of-result c =
    let high : c.args.session ≤ c.self.inside.sessions = subst (λ (p : ScriptParts). c.args.session ≤ p.sessions) (sym c.self.view_is) c.requires.high in
    let room = subst (λ (p : ScriptParts). passes_call_limit p (payload_length c.args.call) ≡ false) (sym c.self.view_is) c.requires.room in
    let within : c.args.session - 1 < length c.self.inside.calls.items = omega (arith, c.self.invariant.script.one_list_each) in
    let read = get_or_read c.self.inside.calls.items (c.args.session - 1) c.index_mut-list.result.now within c.index_mut-list.ensures.value [] in
    rw (c.in_ok-push.ensures.ok, read, c.payload_length-length.ensures) (with_call_is_draft _ _ _ c.args.session c.args.call c.self.invariant c.requires.low high c.requires.no_end room)
