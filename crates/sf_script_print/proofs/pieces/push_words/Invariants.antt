use Rattle.std.proofs.Common.{◌≡◌, ◌++◌, length, map}
use Rattle.sf_script_print.specs.PrintedCalls.{spaced}
use Rattle.sf_script_print.proofs.pieces.push_words.Given as goal

abbrev pub invariant-loop-rest : goal.invariant-loop-rest
invariant-loop-rest l = l.text.items ++ spaced (map (λ word. word.now) l.rest) ≡ l.fn.text.items ++ spaced (map (λ word. word.now) l.words)

abbrev pub decreases-loop-rest : goal.decreases-loop-rest
decreases-loop-rest l = length l.rest
