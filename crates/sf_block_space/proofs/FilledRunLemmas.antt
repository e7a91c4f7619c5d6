-- How many runs have a block.
use Rattle.std.proofs.Common.{◌≡◌, ℕ, ◌+◌, ◌≤◌, ◌<◌, List, [], ◌∷◌, ◌++◌, length, take, get_or, ap, sym, ◌∙◌, arith}
use Rattle.std.specs.Prelude.{min}
use Rattle.std.specs.List.{range_with_len}
use Rattle.std.proofs.lemmas.List.{length-append, take_more}
use Rattle.std.proofs.lemmas.List.Sums.{sum_by_push, sum_by-take-le, sum_by-cons}
use Rattle.std.proofs.lemmas.List.FromFn.{length-range_with_len}
use Rattle.sf_types.specs.declared.run.Run.{Run}
use Rattle.sf_types.specs.Space.BlockRuns.{blocks_in, blocks_in_run}
use Rattle.sf_types.proofs.RunLemmas.{no_run}
use Rattle.sf_block_space.specs.Free.{filled_run_count}

pub filled_by_blocks : (runs : List Run) → filled_run_count runs ≤ length (blocks_in runs)
filled_by_blocks [] = omega arith
filled_by_blocks (run ∷ runs) = omega (arith, filled_by_blocks runs, sum_by-cons (λ (r : Run). min 1 r.blocks) run runs, length-append (blocks_in_run run) (blocks_in runs), length-range_with_len run.first run.blocks)

pub filled_by_runs : (runs : List Run) → filled_run_count runs ≤ length runs
filled_by_runs [] = omega arith
filled_by_runs (run ∷ runs) = omega (arith, filled_by_runs runs, sum_by-cons (λ (r : Run). min 1 r.blocks) run runs)

-- with one run more
pub filled_put : (runs : List Run) (run : Run) → filled_run_count (runs ++ run ∷ []) ≡ filled_run_count runs + min 1 run.blocks
filled_put runs run = sum_by_push (λ run. min 1 run.blocks) runs run

-- those before a run that has a block are fewer
pub filled_before : (runs : List Run) (k : ℕ) → k < length runs → 1 ≤ (get_or runs k no_run).blocks → filled_run_count (take k runs) + 1 ≤ filled_run_count runs
filled_before runs k less some =
    omega (arith, some, sum_by-take-le (λ run. min 1 run.blocks) runs (k + 1), ap filled_run_count (take_more runs k no_run less), filled_put (take k runs) (get_or runs k no_run))
