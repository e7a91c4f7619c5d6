use Rattle.std.proofs.Common.{sym, ap, ◌∙◌}
use Rattle.std.specs.Prelude.{not}
use Rattle.sf_script.proofs.TurnLemmas.{has_turns, has_none}
use Rattle.sf_script.proofs.checks.has_no_turns.Goals as goal

pub returns-in-Some : goal.returns-in-Some
returns-in-Some c = ap not (c.are_turns.ensures ∙ sym (has_turns c.args.sessions c.args.text.now _ _ c.in-Some.ensures))

pub returns-in-None : goal.returns-in-None
returns-in-None c = ap not (sym (has_none c.args.sessions c.args.text.now c.in-None.ensures))
