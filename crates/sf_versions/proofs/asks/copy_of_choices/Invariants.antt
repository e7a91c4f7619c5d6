use Rattle.std.proofs.Common.{◌≡◌, take}
use Rattle.sf_versions.proofs.asks.copy_of_choices.Given as goal

abbrev pub invariant-loop-choice : goal.invariant-loop-choice
invariant-loop-choice l = l.copied ≡ take l.choice-index l.choices
