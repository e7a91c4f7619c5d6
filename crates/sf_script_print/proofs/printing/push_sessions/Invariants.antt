use Rattle.std.proofs.Common.{◌≡◌, ◌+◌, ◌++◌, length}
use Rattle.sf_script_print.specs.Printing.{printed_sessions}
use Rattle.sf_script_print.proofs.printing.push_sessions.Given as goal

abbrev pub invariant-loop-rest : goal.invariant-loop-rest
invariant-loop-rest l = (l.text.items ++ printed_sessions l.session l.rest ≡ l.fn.text.items ++ printed_sessions 1 l.calls) × (l.session + length l.rest ≡ 1 + length l.calls)

abbrev pub decreases-loop-rest : goal.decreases-loop-rest
decreases-loop-rest l = length l.rest
