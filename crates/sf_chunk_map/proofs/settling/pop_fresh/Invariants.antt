use Rattle.std.proofs.Common.{length}
use Rattle.sf_chunk_map.specs.Pieces.{marked_in}
use Rattle.sf_chunk_map.specs.Inside.Settling.{IsFreshFront}
use Rattle.sf_chunk_map.proofs.settling.pop_fresh.Given as goal

abbrev pub invariant-loop-count : goal.invariant-loop-count
invariant-loop-count l = IsFreshFront (marked_in l.initial.tree) (marked_in l.tree) l.len

abbrev pub decreases-loop-count : goal.decreases-loop-count
decreases-loop-count l = length l.tree
