use Rattle.std.proofs.Common.{◌≡◌, ℕ, ◌+◌, ◌++◌, length}
use Rattle.sf_chunk_map.specs.Pieces.{marked_in, fresh_in}
use Rattle.sf_chunk_map.specs.Inside.Counts.{bytes_of_birth}
use Rattle.sf_chunk_map.specs.Inside.Settling.{settled_in, births_of, AreReady}
use Rattle.sf_chunk_map.proofs.settling.settled.Given as goal

abbrev pub invariant-loop-rest : goal.invariant-loop-rest
invariant-loop-rest l = record {
  ready : AreReady l.unused (marked_in l.rest);
  bytes : marked_in l.done ++ settled_in (marked_in l.rest) (births_of l.unused) ≡ settled_in (marked_in l.fn.tree) (births_of l.fn.ready);
  size : length (marked_in l.done) + length (marked_in l.rest) ≡ length (marked_in l.fn.tree);
  counts : (b : ℕ) → bytes_of_birth b (marked_in l.done) + bytes_of_birth b (marked_in l.rest) + bytes_of_birth b (marked_in l.unused) ≡ bytes_of_birth b (marked_in l.fn.tree) + bytes_of_birth b (marked_in l.fn.ready);
}

abbrev pub decreases-loop-rest : goal.decreases-loop-rest
decreases-loop-rest l = fresh_in (marked_in l.rest)
