use Rattle.std.proofs.Common.{◌≡◌}
use Rattle.sf_dispensers.proofs.dispensers.Dispensers.fill.Given as goal

abbrev pub invariant-loop : goal.invariant-loop
invariant-loop g l =
    record { turns : (goal.iterator-loop g).can_next l.iterator' × (goal.iterator-loop g).is_finite l.iterator'; wanted : l.gathering.wanted_blocks ≡ l.fn.gathering.wanted_blocks; follows : g.F.Ripe.follows l.fn.ripe l.ripe }
