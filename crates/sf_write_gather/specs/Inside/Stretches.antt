-- Stretches of fresh bytes that begin at a byte, counted from 0 (our own).
use Rattle.std.specs.Prelude.{◌≡◌, ℕ, ◌+◌, ◌≤◌, List, length}
use Rattle.sf_types.specs.Values.Marks.{Marked, fresh_bytes}
use Rattle.sf_chunk_map.specs.Contents.{window}
use Rattle.sf_chunk_map.specs.Stretches.{IsNotFreshAt}

-- All fresh bytes from one on, up to the first that isn't fresh, or to the end.
pub record IsStretch (marked : List Marked) (at : ℕ) (bytes : List ℕ) : Type 0 where
  pub within : at + length bytes ≤ length marked
  pub bytes_are : window at (length bytes) marked ≡ fresh_bytes bytes
  pub ended : IsNotFreshAt marked (at + length bytes)
