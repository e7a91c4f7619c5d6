-- Parked runs, and the batches in which they leave (our own, after VLDB 2008).
use Rattle.std.specs.Prelude.{◌≡◌, ℕ, zero, suc, ◌+◌, ◌-◌, ◌≤◌, ◌<◌, ◌⊎◌, List, [], ◌∷◌, filter, nat_lt, if◌then◌else◌}
use Rattle.sf_types.specs.declared.run.Run.{Run}
use Rattle.sf_types.specs.Space.BlockRuns.{front_of, rest_of}
use Rattle.sf_free_commit.specs.declared.queue.TheConstants.{GREATEST_BLOCK}

-- A run of one block or more, none above the greatest block.
abbrev pub IsParkable : Run → Type 0
IsParkable run = (1 ≤ run.blocks) × (run.first + run.blocks ≤ GREATEST_BLOCK + 1)

-- The runs that have a block.
abbrev pub runs_with_blocks : List Run → List Run
runs_with_blocks runs = filter (λ run. nat_lt 0 run.blocks) runs

-- The runs of the first n blocks: whole runs, and at last the front of a run that has more than are wanted.
abbrev pub first_runs : ℕ → List Run → List Run
first_runs zero runs = []
first_runs (suc n) [] = []
first_runs (suc n) (run ∷ runs) =
    if nat_lt (suc n) run.blocks then front_of run (suc n) ∷ [] else run ∷ first_runs (suc n - run.blocks) runs

-- The runs of the blocks behind the first n: the rest of a run of which only the front was taken, and the runs behind it.
abbrev pub later_runs : ℕ → List Run → List Run
later_runs zero runs = runs
later_runs (suc n) [] = []
later_runs (suc n) (run ∷ runs) =
    if nat_lt (suc n) run.blocks then rest_of run (suc n) ∷ runs else later_runs (suc n - run.blocks) runs

-- The first run leaves the others, or where it has more than n blocks, its first n do.
abbrev pub LeavesFirst : List Run → ℕ → Run → List Run → Type 0
LeavesFirst runs n taken left = (run : Run) × (others : List Run) × (runs ≡ run ∷ others) × (
    ((run.blocks ≤ n) × (taken ≡ run) × (left ≡ others))
    ⊎ ((n < run.blocks) × (taken ≡ front_of run n) × (left ≡ rest_of run n ∷ others)))
