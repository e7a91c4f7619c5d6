use Rattle.std.proofs.Common.{◌≡◌}
use Rattle.sf_dispensers.proofs.dispensers.Dispensers.scan.Given as goal

abbrev pub invariant-loop-turn : goal.invariant-loop-turn
invariant-loop-turn g l = l.gathering.wanted_blocks ≡ l.initial.gathering.wanted_blocks
