use Rattle.std.proofs.Common.{◌≡◌, ◌+◌, ◌⊎◌, length}
use Rattle.sf_dispensers.proofs.dispenser.Dispenser.give.Given as goal

-- each turn took a run away, unless nothing is missing any more
abbrev pub invariant-loop : goal.invariant-loop
invariant-loop g l = record {
  wanted : l.gathering.wanted_blocks ≡ l.initial.gathering.wanted_blocks;
  left : (l.gathering.block_count ≡ l.gathering.wanted_blocks) ⊎ (length l.self.held + l.counter ≡ l.end);
}
