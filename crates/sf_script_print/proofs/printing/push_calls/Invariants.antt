use Rattle.std.proofs.Common.{◌≡◌, ◌++◌, length}
use Rattle.sf_script_print.specs.Printing.{printed_calls}
use Rattle.sf_script_print.proofs.printing.push_calls.Given as goal

abbrev pub invariant-loop-rest : goal.invariant-loop-rest
invariant-loop-rest l = l.text.items ++ printed_calls l.session l.rest ≡ l.fn.text.items ++ printed_calls l.session l.calls

abbrev pub decreases-loop-rest : goal.decreases-loop-rest
decreases-loop-rest l = length l.rest
