use Rattle.std.proofs.Common.{sym, ◌∙◌}
use Rattle.sf_script.proofs.TurnLemmas.{schedule_none, schedule_wrong, schedule_right}
use Rattle.sf_script.proofs.line_form.schedule_line.Goals as goal

pub returns-in_default : goal.returns-in_default
returns-in_default c = schedule_none c.args.sessions c.args.text.now c.in_default.ensures

pub returns-then-are_turns : goal.returns-then-are_turns
returns-then-are_turns c =
    schedule_right c.args.sessions c.args.text.now _ _ c.in-Some.ensures (sym c.are_turns.ensures ∙ c.if-are_turns.true)

pub returns-else-are_turns : goal.returns-else-are_turns
returns-else-are_turns c =
    schedule_wrong c.args.sessions c.args.text.now _ _ c.in-Some.ensures (sym c.are_turns.ensures ∙ c.if-are_turns.false)
