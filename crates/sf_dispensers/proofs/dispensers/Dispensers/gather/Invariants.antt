use Rattle.std.proofs.Common.{◌≡◌}
use Rattle.sf_dispensers.proofs.dispensers.Dispensers.gather.Given as goal

abbrev pub invariant-loop-list : goal.invariant-loop-list
invariant-loop-list g l = l.gathering.wanted_blocks ≡ l.fn.gathering.wanted_blocks
