use Rattle.std.proofs.Common.{◌≡◌, true, false, sym, ◌∙◌}
use Rattle.std.specs.Prelude.{is_some}
use Rattle.sf_script.specs.Schedules.{turn_of}
use Rattle.sf_script.proofs.TurnLemmas.{turn_right, turn_wrong, turn_last, fewer}
use Rattle.sf_script.proofs.schedule.are_turns.Goals as goal

pub returns-then-not-is_turn : goal.returns-then-not-is_turn
returns-then-not-is_turn c =
    let wrong : is_some (turn_of c.args.sessions c.in-Some.word.now) ≡ false = cc in
    sym (turn_wrong c.args.sessions c.loop-word.rest.now _ _ c.in-Some.ensures wrong) ∙ c.loop-word.invariant

pub loop-word-smaller : goal.loop-word-smaller
loop-word-smaller c = fewer c.loop-word.rest.now _ _ c.in-Some.ensures

pub loop-word-preserved : goal.loop-word-preserved
loop-word-preserved c =
    let right : is_some (turn_of c.args.sessions c.in-Some.word.now) ≡ true = cc in
    sym (turn_right c.args.sessions c.loop-word.rest.now _ _ c.in-Some.ensures right) ∙ c.loop-word.invariant

pub returns : goal.returns
returns c = c.is_turn-2.ensures ∙ sym (turn_last c.args.sessions c.loop-word.rest.now c.in_default.ensures) ∙ c.loop-word.invariant
