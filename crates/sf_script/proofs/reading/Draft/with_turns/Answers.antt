use Rattle.std.proofs.Common.{sym, subst}
use Rattle.sf_script.specs.Inside.Readings.{CanHaveTurns}
use Rattle.sf_script.specs.Parts.{ScriptParts}
use Rattle.sf_script_calls.specs.Words.{parts_of}
use Rattle.sf_script.specs.Schedules.{turns_of}
use Rattle.sf_script.proofs.DraftLemmas.{with_turns_is_draft}
use Rattle.sf_script.proofs.reading.Draft.with_turns.Goals as goal

pub invariant_of-result : goal.invariant_of-result
invariant_of-result c =
    let more = subst (λ (p : ScriptParts). CanHaveTurns p (turns_of c.args.among (parts_of c.args.words.now))) (sym c.self.view_is) c.requires in
    rw c.in_ok-push_turns.ensures (with_turns_is_draft _ _ _ _ c.self.invariant more)
