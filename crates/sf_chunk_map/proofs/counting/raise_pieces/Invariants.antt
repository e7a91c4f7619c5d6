use Rattle.std.proofs.Common.{◌≡◌, ℕ, ◌+◌, ◌-◌, length, take}
use Rattle.sf_chunk_map.specs.Pieces.{marked_in}
use Rattle.sf_chunk_map.specs.Inside.Counts.{count_at, bytes_of_birth, HasPlace}
use Rattle.sf_chunk_map.proofs.counting.raise_pieces.Given as goal

abbrev pub invariant-loop-piece : goal.invariant-loop-piece
invariant-loop-piece l = record {
  counts : (b : ℕ) → count_at l.counts b ≡ count_at l.initial.counts b + bytes_of_birth b (take l.at (marked_in l.tree));
  places : (b : ℕ) → HasPlace l.initial.counts b → HasPlace l.counts b;
}

abbrev pub decreases-loop-piece : goal.decreases-loop-piece
decreases-loop-piece l = length (marked_in l.tree) - l.at
