-- Where the fresh bytes of a value lie (our own). Bytes are counted from 0.
use Rattle.std.specs.Prelude.{◌≡◌, ℕ, ◌-◌, ◌≤◌, List, length, drop}
use Rattle.sf_types.specs.Values.Marks.{Marked, fresh_bytes}
use Rattle.sf_chunk_map.specs.Contents.{window}
use Rattle.sf_chunk_map.specs.Pieces.{fresh_in}

-- The first fresh byte from another byte on: it is fresh, and none of those between is.
pub record IsNextFresh (marked : List Marked) (at found : ℕ) : Type 0 where
  pub from : at ≤ found
  pub none_between : fresh_in (window at (found - at) marked) ≡ 0
  pub fresh : fresh_in (window found 1 marked) ≡ 1

-- No byte from one on is fresh.
abbrev pub NoneFreshFrom : List Marked → ℕ → Type 0
NoneFreshFrom marked at = fresh_in (drop at marked) ≡ 0

-- A byte isn't fresh, or there is no such byte.
abbrev pub IsNotFreshAt : List Marked → ℕ → Type 0
IsNotFreshAt marked at = fresh_in (window at 1 marked) ≡ 0

-- Bytes, at least one, that stand among others from one on and are fresh.
pub record AreFreshAt (marked : List Marked) (at : ℕ) (bytes : List ℕ) : Type 0 where
  pub some : 1 ≤ length bytes
  pub bytes_are : window at (length bytes) marked ≡ fresh_bytes bytes
