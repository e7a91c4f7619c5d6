use Rattle.std.proofs.Common.{◌≡◌, ℕ, ◌+◌, ◌-◌, length, take}
use Rattle.sf_chunk_map.specs.Pieces.{marked_in}
use Rattle.sf_chunk_map.specs.Inside.Counts.{count_at, bytes_of_birth}
use Rattle.sf_chunk_map.proofs.counting.lower_pieces.Given as goal

abbrev pub invariant-loop-piece : goal.invariant-loop-piece
invariant-loop-piece l = (b : ℕ) → count_at l.counts b + bytes_of_birth b (take l.at (marked_in l.tree)) ≡ count_at l.initial.counts b

abbrev pub decreases-loop-piece : goal.decreases-loop-piece
decreases-loop-piece l = length (marked_in l.tree) - l.at
