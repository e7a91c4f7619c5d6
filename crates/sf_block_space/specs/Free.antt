-- The free blocks of a store, as runs (our own, after VLDB 2008).
use Rattle.std.specs.Prelude.{◌≡◌, ℕ, ◌+◌, ◌≤◌, ◌<◌, List, [], ◌∷◌, Bool, false, ◌||◌, ◌&&◌, ◌≢◌, length, min, sum_by, All, AllPairs, nat_eq}
use Rattle.std.specs.List.{list_any}
use Rattle.sf_types.specs.declared.run.Run.{Run}
use Rattle.sf_types.specs.Space.BlockRuns.{blocks_in}

-- The free blocks below a capacity, which is a number of blocks. They stand in `runs`.
pub record FreeSpace : Type 0 where
  pub capacity : ℕ
  pub runs : List Run

-- Each run has a block and ends at most at the capacity. The first begins at `from` or later, and each other one past the
-- block that follows the run before it.
abbrev pub AreFreeRunsFrom : ℕ → ℕ → List Run → Type 0
AreFreeRunsFrom from capacity [] = Unit {0}
AreFreeRunsFrom from capacity (run ∷ runs) =
    (from ≤ run.first) × (1 ≤ run.blocks) × (run.first + run.blocks ≤ capacity)
    × AreFreeRunsFrom (run.first + run.blocks + 1) capacity runs

-- The maximal runs of some blocks below a capacity, in rising order.
abbrev pub AreFreeRuns : ℕ → List Run → Type 0
AreFreeRuns capacity runs = AreFreeRunsFrom 0 capacity runs

-- Whether a block stands in some runs.
abbrev pub has_block : List Run → ℕ → Bool
has_block runs block = list_any (nat_eq block) (blocks_in runs)

-- Blocks that are out: each is below the capacity, none of them is free, and none is named twice.
pub record AreOut (space : FreeSpace) (blocks : List ℕ) : Type 0 where
  pub below : All (λ block. block < space.capacity) blocks
  pub apart : All (λ block. has_block space.runs block ≡ false) blocks
  pub once : AllPairs (λ block other. block ≢ other) blocks

-- How many of some runs have a block.
abbrev pub filled_run_count : List Run → ℕ
filled_run_count runs = sum_by (λ run. min 1 run.blocks) runs

-- No block stands in both.
abbrev pub AreApart : List Run → List Run → Type 0
AreApart runs others = (block : ℕ) → (has_block runs block && has_block others block) ≡ false

-- Runs with the blocks of some others beside their own.
pub record Gains (runs more gained : List Run) : Type 0 where
  pub blocks : (block : ℕ) → has_block more block ≡ (has_block runs block || has_block gained block)
  pub count : length (blocks_in more) ≡ length (blocks_in runs) + length (blocks_in gained)
