use Rattle.sf_turnstile.specs.TestSeats.{MayAdd}
use Rattle.sf_turnstile.proofs.tests.all_turns.Given as goal

abbrev pub invariant-loop-number : goal.invariant-loop-number
invariant-loop-number g l = MayAdd l.turnstile l.seat
