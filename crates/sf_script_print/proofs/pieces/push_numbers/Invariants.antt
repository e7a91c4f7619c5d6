use Rattle.std.proofs.Common.{◌≡◌, ◌++◌, length, map}
use Rattle.std.specs.Fmt.{decimal}
use Rattle.sf_script_print.specs.PrintedCalls.{spaced}
use Rattle.sf_script_print.proofs.pieces.push_numbers.Given as goal

abbrev pub invariant-loop-rest : goal.invariant-loop-rest
invariant-loop-rest l = l.text.items ++ spaced (map decimal l.rest) ≡ l.fn.text.items ++ spaced (map decimal l.numbers)

abbrev pub decreases-loop-rest : goal.decreases-loop-rest
decreases-loop-rest l = length l.rest
