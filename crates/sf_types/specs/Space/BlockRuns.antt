-- Runs of blocks, which count from 0 (our own).
use Rattle.std.specs.Prelude.{◌≢◌, ℕ, ◌+◌, ◌-◌, ◌≤◌, List, [], ◌∷◌, flat_map}
use Rattle.std.specs.List.{range_with_len}
use Rattle.sf_types.specs.declared.run.Run.{Run}

-- The blocks of a run, from its first on.
abbrev pub blocks_in_run : Run → List ℕ
blocks_in_run run = range_with_len run.first run.blocks

-- The blocks of some runs, one run after the other.
abbrev pub blocks_in : List Run → List ℕ
blocks_in runs = flat_map blocks_in_run runs

-- Each run has a block, and none begins with the block that follows the run before it.
abbrev pub AreRuns : List Run → Type 0
AreRuns [] = Unit {0}
AreRuns (run ∷ []) = 1 ≤ run.blocks
AreRuns (run ∷ next ∷ runs) = (1 ≤ run.blocks) × (next.first ≢ run.first + run.blocks) × AreRuns (next ∷ runs)

-- The first n blocks of a run.
abbrev pub front_of : Run → ℕ → Run
front_of run n = record { first = run.first; blocks = n }

-- The blocks of a run behind its first n.
abbrev pub rest_of : Run → ℕ → Run
rest_of run n = record { first = run.first + n; blocks = run.blocks - n }
