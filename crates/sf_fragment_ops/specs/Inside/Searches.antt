-- A pattern looked for in a part of a value's bytes (our own).
use Rattle.std.specs.Prelude.{ℕ, ◌+◌, ◌≤◌, List, length}
use Rattle.memchr.specs.Find.{FindsNeedle}
use Rattle.sf_chunk_map.specs.Contents.{window}
use Rattle.sf_fragment_ops.specs.declared.search.Look.{Look}

-- Bytes from one on, counted from 0, were looked through: they are there, they are at least as many as the pattern's, and
-- where the pattern stands in them first was found.
pub record IsLook (bytes pattern : List ℕ) (at : ℕ) (look : Look) : Type 0 where
  pub room : length pattern ≤ look.count
  pub within : at + look.count ≤ length bytes
  pub found : FindsNeedle (window at look.count bytes) pattern 0 look.found
