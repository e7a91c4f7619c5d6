-- Which free blocks are granted (our own, after VLDB 2008).
use Rattle.std.specs.Prelude.{ℕ, zero, suc, ◌+◌, ◌-◌, ◌==◌, not, nat_lt, nat_le, List, [], ◌∷◌, length, filter, find, if◌then◌else◌}
use Rattle.std.specs.Option.{option_map_or}
use Rattle.sf_types.specs.declared.run.Run.{Run}
use Rattle.sf_types.specs.Space.BlockRuns.{blocks_in, front_of}

-- Runs with the block before them, which joins the first run where that begins next to it.
abbrev pub with_block_before : ℕ → List Run → List Run
with_block_before block [] = record { first = block; blocks = 1 } ∷ []
with_block_before block (run ∷ runs) =
    if run.first == block + 1
    then record { first = block; blocks = run.blocks + 1 } ∷ runs
    else record { first = block; blocks = 1 } ∷ run ∷ runs

-- The maximal runs of rising blocks.
abbrev pub maximal_runs : List ℕ → List Run
maximal_runs [] = []
maximal_runs (block ∷ blocks) = with_block_before block (maximal_runs blocks)

-- The longest of a run and the runs behind it, the first of equals.
abbrev pub longest_run : Run → List Run → Run
longest_run run [] = run
longest_run run (other ∷ others) =
    if nat_lt run.blocks other.blocks then longest_run other others else longest_run run others

-- Runs without the one that begins where this one does.
abbrev pub without_run : Run → List Run → List Run
without_run run runs = filter (λ other. not (other.first == run.first)) runs

-- A grant of n blocks that takes at most so many of some runs.
abbrev pub granted_runs_of : ℕ → List Run → ℕ → List Run
granted_runs_of zero runs n = []
granted_runs_of (suc most) [] n = []
granted_runs_of (suc most) (run ∷ runs) n =
    let longest = longest_run run runs in
    if n == 0 then []
    else option_map_or (λ lowest. front_of lowest n ∷ [])
    (find (λ other. nat_le n other.blocks) (run ∷ runs))
    (longest ∷ granted_runs_of most (without_run longest (run ∷ runs)) (n - longest.blocks))

-- A grant of n blocks from free runs in rising order takes the first n blocks of the lowest run with at least n; where there
-- is none, the whole of the longest run, the lowest of equals, and then the rest in the same way.
abbrev pub granted_runs : List Run → ℕ → List Run
granted_runs runs n = granted_runs_of (length runs) runs n

-- The blocks that a grant of n takes from rising free blocks, in its order.
abbrev pub granted_blocks : List ℕ → ℕ → List ℕ
granted_blocks free n = blocks_in (granted_runs (maximal_runs free) n)
