-- Runs with blocks, one after another.
use Rattle.std.proofs.Common.{◌≡◌, ℕ, ◌+◌, ◌≤◌, ◌<◌, ◌⊎◌, inl, inr, List, [], ◌∷◌, ◌++◌, length, take, drop, get_or, true, false, ltb, refl, sym, ap, ◌∙◌, arith}
use Rattle.std.specs.Prelude.{All}
use Rattle.std.specs.List.{AllByRecursion, range_with_len}
use Rattle.std.proofs.lemmas.Bool.{cases_lt, lt-ltb, le-ltb}
use Rattle.std.proofs.lemmas.List.{append-nil, length-append, take-append-drop}
use Rattle.std.proofs.lemmas.List.Elements.{filter-append, filter_more, recursion_from_All}
use Rattle.std.proofs.lemmas.List.FromFn.{length-range_with_len}
use Rattle.sf_types.specs.declared.run.Run.{Run}
use Rattle.sf_types.specs.Space.BlockRuns.{blocks_in, blocks_in_run}
use Rattle.sf_types.proofs.RunLemmas.{no_run}
use Rattle.sf_free_commit.specs.Batches.{IsParkable, runs_with_blocks}

-- a run with a block is one more
pub next-with-blocks : (runs : List Run) (k : ℕ) → k < length runs → 0 < (get_or runs k no_run).blocks → runs_with_blocks (take (k + 1) runs) ≡ runs_with_blocks (take k runs) ++ get_or runs k no_run ∷ []
next-with-blocks runs k less some =
    let has : ltb 0 (get_or runs k no_run).blocks ≡ true = lt-ltb 0 (get_or runs k no_run).blocks some in
    filter_more (λ (run : Run). ltb 0 run.blocks) runs k no_run less ∙ rw has refl

-- a run of no blocks isn't
pub next-without : (runs : List Run) (k : ℕ) → k < length runs → (get_or runs k no_run).blocks ≤ 0 → runs_with_blocks (take (k + 1) runs) ≡ runs_with_blocks (take k runs)
next-without runs k less none =
    let hasnt : ltb 0 (get_or runs k no_run).blocks ≡ false = le-ltb 0 (get_or runs k no_run).blocks none in
    filter_more (λ (run : Run). ltb 0 run.blocks) runs k no_run less ∙ rw hasnt (append-nil (runs_with_blocks (take k runs)))

-- those among the first runs are no more than all
pub first-few : (runs : List Run) (k : ℕ) → length (runs_with_blocks (take k runs)) ≤ length (runs_with_blocks runs)
first-few runs k =
    let parts : runs_with_blocks runs ≡ runs_with_blocks (take k runs) ++ runs_with_blocks (drop k runs) =
    ap runs_with_blocks (sym (take-append-drop k runs)) ∙ filter-append (λ (run : Run). ltb 0 run.blocks) (take k runs) (drop k runs) in
    omega (arith, ap length parts, length-append (runs_with_blocks (take k runs)) (runs_with_blocks (drop k runs)))

-- runs of no blocks have no blocks
pub blocks-with-blocks : (runs : List Run) → blocks_in (runs_with_blocks runs) ≡ blocks_in runs
blocks-with-blocks [] = refl
blocks-with-blocks (run ∷ runs) = choose (blocks-with-blocks runs) (cases_lt 0 run.blocks)
  where
    choose : blocks_in (runs_with_blocks runs) ≡ blocks_in runs → (0 < run.blocks) ⊎ (run.blocks ≤ 0) → blocks_in (runs_with_blocks (run ∷ runs)) ≡ blocks_in (run ∷ runs)
    choose others (inl some) =
        let has : ltb 0 run.blocks ≡ true = lt-ltb 0 run.blocks some in
        rw has (ap (λ (xs : List ℕ). blocks_in_run run ++ xs) others)
    choose others (inr none) =
        let hasnt : ltb 0 run.blocks ≡ false = le-ltb 0 run.blocks none in
        let zero : 0 ≡ run.blocks = omega (arith, none) in
        rw hasnt (others ∙ ap (λ n. range_with_len run.first n ++ blocks_in runs) zero)

-- parked runs are no more than their blocks
few_by_recursion : (runs : List Run) → AllByRecursion IsParkable runs → length runs ≤ length (blocks_in runs)
few_by_recursion [] all = omega arith
few_by_recursion (run ∷ runs) all =
    omega (arith, few_by_recursion runs all.1, all.0.0, length-append (blocks_in_run run) (blocks_in runs), length-range_with_len run.first run.blocks)

pub few-parked : (runs : List Run) → All IsParkable runs → length runs ≤ length (blocks_in runs)
few-parked runs all = few_by_recursion runs (recursion_from_All IsParkable runs all)
