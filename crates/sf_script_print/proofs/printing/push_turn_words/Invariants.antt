use Rattle.std.proofs.Common.{◌≡◌, ◌++◌, length, map}
use Rattle.sf_script_print.specs.PrintedCalls.{spaced}
use Rattle.sf_script_print.specs.Printing.{turn_word}
use Rattle.sf_script_print.proofs.printing.push_turn_words.Given as goal

abbrev pub invariant-loop-rest : goal.invariant-loop-rest
invariant-loop-rest l = l.text.items ++ spaced (map turn_word l.rest) ≡ l.fn.text.items ++ spaced (map turn_word l.turns)

abbrev pub decreases-loop-rest : goal.decreases-loop-rest
decreases-loop-rest l = length l.rest
