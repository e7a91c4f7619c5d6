use Rattle.std.proofs.Common.{◌≡◌, ◌-◌, ◌++◌, drop, length}
use Rattle.sf_store_half.specs.Inside.Settled.{front_chunks}
use Rattle.sf_store_half.proofs.settled_changes.take_chunks.Given as goal

abbrev pub invariant-loop-left : goal.invariant-loop-left
invariant-loop-left l = l.taken ++ front_chunks l.left (drop l.at l.chunks) ≡ front_chunks l.fn.bytes (drop l.fn.from l.chunks)

abbrev pub decreases-loop-left : goal.decreases-loop-left
decreases-loop-left l = length l.chunks - l.at
