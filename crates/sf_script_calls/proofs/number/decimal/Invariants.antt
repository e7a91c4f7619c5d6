use Rattle.std.proofs.Common.{◌≡◌, ◌<◌, ◌^◌, length}
use Rattle.sf_script_calls.proofs.DecimalLemmas.{decimal_from}
use Rattle.sf_script_calls.proofs.number.decimal.Given as goal

abbrev pub invariant-loop-rest : goal.invariant-loop-rest
invariant-loop-rest l = (decimal_from l.number l.rest ≡ decimal_from 0 l.text) × (l.number < 2 ^ 64)

abbrev pub decreases-loop-rest : goal.decreases-loop-rest
decreases-loop-rest l = length l.rest
