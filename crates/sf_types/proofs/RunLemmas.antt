-- The blocks of runs.
use Rattle.std.proofs.Common.{◌≡◌, ℕ, zero, suc, ◌+◌, ◌-◌, ◌≤◌, ◌<◌, List, [], ◌∷◌, ◌++◌, length, take, get_or, sym, ap, ◌∙◌, subst, arith}
use Rattle.std.specs.List.{All, range_with_len}
use Rattle.std.proofs.lemmas.List.{append-nil, take_more}
use Rattle.std.proofs.lemmas.List.Concat.{get_or-flat_map}
use Rattle.std.proofs.lemmas.List.Folds.{length-flat_map-take}
use Rattle.std.proofs.lemmas.List.FromFn.{length-range_with_len, get_or-range_with_len}
use Rattle.std.proofs.lemmas.Grind.{flat_map-append}
use Rattle.sf_types.specs.declared.run.Run.{Run}
use Rattle.sf_types.specs.Space.BlockRuns.{blocks_in, blocks_in_run, front_of, rest_of}

-- so many numbers, and then the others
pub range-split : (first a b : ℕ) → range_with_len first (a + b) ≡ range_with_len first a ++ range_with_len (first + a) b
range-split first zero b =
    let none : 0 + b ≡ b = omega arith in
    let same : first ≡ first + 0 = omega arith in
    ap (λ n. range_with_len first n) none ∙ ap (λ k. range_with_len k b) same
range-split first (suc a) b =
    let more : suc a + b ≡ suc (a + b) = omega arith in
    let next : first + 1 + a ≡ first + suc a = omega arith in
    ap (λ n. range_with_len first n) more
    ∙ ap (λ (xs : List ℕ). first ∷ xs) (range-split (first + 1) a b)
    ∙ ap (λ k. first ∷ (range_with_len (first + 1) a ++ range_with_len k b)) next

-- a run of no blocks
abbrev pub no_run : Run
no_run = record { first = 0; blocks = 0 }

-- the blocks of some runs and one more
pub push-blocks : (runs more : List Run) (run : Run) → more ≡ runs ++ run ∷ [] → blocks_in more ≡ blocks_in runs ++ blocks_in_run run
push-blocks runs more run is =
    ap blocks_in is
    ∙ flat_map-append blocks_in_run runs (run ∷ [])
    ∙ ap (λ (xs : List ℕ). blocks_in runs ++ xs) (append-nil (blocks_in_run run))

-- the blocks of one run more
pub next-blocks : (runs : List Run) (k : ℕ) → k < length runs → blocks_in (take (k + 1) runs) ≡ blocks_in (take k runs) ++ blocks_in_run (get_or runs k no_run)
next-blocks runs k less =
    push-blocks (take k runs) (take (k + 1) runs) (get_or runs k no_run) (take_more runs k no_run less)

-- they are no more than all blocks
pub next-count : (runs : List Run) (k : ℕ) → k < length runs → length (blocks_in (take k runs)) + (get_or runs k no_run).blocks ≤ length (blocks_in runs)
next-count runs k less =
    let run = get_or runs k no_run in
    omega (arith, length-flat_map-take blocks_in_run runs k no_run less, length-range_with_len run.first run.blocks)

-- a run's first blocks, and then its others
pub run-split : (run : Run) (n : ℕ) → n ≤ run.blocks → blocks_in_run (front_of run n) ++ blocks_in_run (rest_of run n) ≡ blocks_in_run run
run-split run n less =
    let sum : n + (run.blocks - n) ≡ run.blocks = omega (arith, less) in
    sym (range-split run.first n (run.blocks - n)) ∙ ap (range_with_len run.first) sum

-- a block of one of the runs stands in the list of all blocks
pub offset-of-block : (runs : List Run) (k block : ℕ) → k < length runs → (get_or runs k no_run).first ≤ block → block < (get_or runs k no_run).first + (get_or runs k no_run).blocks
    → (length (blocks_in (take k runs)) + (block - (get_or runs k no_run).first) < length (blocks_in runs)) × (get_or (blocks_in runs) (length (blocks_in (take k runs)) + (block - (get_or runs k no_run).first)) 0 ≡ block)
offset-of-block runs k block less from to =
    let run = get_or runs k no_run in
    let i = block - run.first in
    let size = length-range_with_len run.first run.blocks in
    let inside : i < run.blocks = omega (arith, from, to) in
    let same : run.first + i ≡ block = omega (arith, from) in (
      omega (arith, length-flat_map-take blocks_in_run runs k no_run less, size, inside),
      get_or-flat_map blocks_in_run runs k i no_run 0 less (omega (arith, size, inside)) ∙ get_or-range_with_len run.first run.blocks i 0 inside ∙ same,
    )

-- what holds of all blocks holds of each block of a run
pub of-block : (P : ℕ → Type 0) (runs : List Run) (k block : ℕ) → k < length runs → (get_or runs k no_run).first ≤ block → block < (get_or runs k no_run).first + (get_or runs k no_run).blocks → All P (blocks_in runs) → P block
of-block P runs k block less from to all =
    let here = offset-of-block runs k block less from to in
    subst P here.1 (all _ 0 here.0)

-- and of the list of its blocks
pub of-run : (P : ℕ → Type 0) (runs : List Run) (k : ℕ) → k < length runs → All P (blocks_in runs) → All P (blocks_in_run (get_or runs k no_run))
of-run P runs k less all i d within =
    let run = get_or runs k no_run in
    let inside : i < run.blocks = omega (arith, within, length-range_with_len run.first run.blocks) in
    subst P (sym (get_or-range_with_len run.first run.blocks i d inside)) (of-block P runs k (run.first + i) less (omega arith) (omega (arith, inside)) all)

-- a run of blocks that are all below a number ends there at most
pub end-within : (run : Run) (capacity : ℕ) → 1 ≤ run.blocks → All (λ block. block < capacity) (blocks_in_run run) → run.first + run.blocks ≤ capacity
end-within run capacity some below =
    let last = run.blocks - 1 in
    let is : get_or (blocks_in_run run) last 0 ≡ run.first + last = get_or-range_with_len run.first run.blocks last 0 (omega (arith, some)) in
    let here : get_or (blocks_in_run run) last 0 < capacity = below last 0 (omega (arith, some, length-range_with_len run.first run.blocks)) in
    omega (arith, some, is, here)

-- the blocks of a run that ends at a number are below it
pub blocks-within : (run : Run) (capacity : ℕ) → run.first + run.blocks ≤ capacity → All (λ block. block < capacity) (blocks_in_run run)
blocks-within run capacity ends k d less =
    let inside : k < run.blocks = omega (arith, less, length-range_with_len run.first run.blocks) in
    omega (arith, ends, inside, get_or-range_with_len run.first run.blocks k d inside)
