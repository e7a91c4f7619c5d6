-- Safe placings of contents (after VLDB 2008; the numbers are our own).
use Rattle.std.specs.Prelude.{◌≡◌, ◌≢◌, ℕ, ◌<◌, List, map, length, All, AllPairs, flat_map}
use Rattle.sf_types.specs.Table.Parts.{Table}
use Rattle.sf_types.specs.Space.Reach.{reach}
use Rattle.sf_types.specs.Space.Use.{blocks_of_birth}

-- A birth with the blocks of its content, in the content's order. Blocks count from 0.
pub record Placed : Type 0 where
  pub birth : ℕ
  pub blocks : List ℕ

-- All blocks of a placing.
abbrev pub all_blocks : List Placed → List ℕ
all_blocks placing = flat_map (λ x. x.blocks) placing

-- A safe placing gives each birth in reach as many blocks as its content takes, each below the capacity, and no block
-- stands twice among all births together.
pub record IsSafe (t : Table) (placing : List Placed) : Type 0 where
  pub births : map (λ x. x.birth) placing ≡ reach t
  pub counts : All (λ x. length x.blocks ≡ blocks_of_birth t.contents x.birth) placing
  pub below : All (λ block. block < t.options.capacity) (all_blocks placing)
  pub once : AllPairs (λ block other. block ≢ other) (all_blocks placing)
