-- Runs in their order.
use Rattle.std.proofs.Common.{◌≡◌, ℕ, zero, suc, ◌+◌, ◌-◌, ◌^◌, ◌≤◌, ◌<◌, List, [], ◌∷◌, ◌++◌, length, get_or, refl, sym, subst, arith}
use Rattle.std.proofs.lemmas.List.{length-append}
use Rattle.std.proofs.lemmas.List.FromFn.{length-range_with_len}
use Rattle.sf_types.specs.declared.run.Run.{Run}
use Rattle.sf_types.specs.Space.BlockRuns.{blocks_in, blocks_in_run}
use Rattle.sf_block_space.specs.Free.{AreFreeRuns, AreFreeRunsFrom}
use Rattle.sf_block_space.specs.Inside.{BeginsFrom}

-- The lowest block at which a run may begin that follows these ones and doesn't touch them.
abbrev pub past : ℕ → List Run → ℕ
past from [] = from
past from (run ∷ runs) = past (run.first + run.blocks + 1) runs

-- they begin where the first of them does, or before
pub free-from : (from to capacity : ℕ) (runs : List Run) → AreFreeRunsFrom from capacity runs → BeginsFrom to runs → AreFreeRunsFrom to capacity runs
free-from from to capacity [] free first = tt
free-from from to capacity (run ∷ runs) free first = (first, free.1, free.2, free.3)

pub free-from-before : (from to capacity : ℕ) (runs : List Run) → to ≤ from → AreFreeRunsFrom from capacity runs → AreFreeRunsFrom to capacity runs
free-from-before from to capacity [] before free = tt
free-from-before from to capacity (run ∷ runs) before free = (omega (arith, before, free.0), free.1, free.2, free.3)

-- the runs behind some others
pub behind : (from capacity : ℕ) (before after : List Run) → AreFreeRunsFrom from capacity (before ++ after) → AreFreeRunsFrom (past from before) capacity after
behind from capacity [] after free = free
behind from capacity (run ∷ before) after free = behind (run.first + run.blocks + 1) capacity before after free.3

-- other runs behind the same ones
pub with-others : (from capacity : ℕ) (before after others : List Run) → AreFreeRunsFrom from capacity (before ++ after) → AreFreeRunsFrom (past from before) capacity others → AreFreeRunsFrom from capacity (before ++ others)
with-others from capacity [] after others free others-free = others-free
with-others from capacity (run ∷ before) after others free others-free =
    (free.0, free.1, free.2, with-others (run.first + run.blocks + 1) capacity before after others free.3 others-free)

pub past-last : (from : ℕ) (before : List Run) (run : Run) → past from (before ++ run ∷ []) ≡ run.first + run.blocks + 1
past-last from [] run = refl
past-last from (other ∷ before) run = past-last (other.first + other.blocks + 1) before run

-- a run begins behind all before it
pub first-behind : (from capacity : ℕ) (before : List Run) (run : Run) (after : List Run) → AreFreeRunsFrom from capacity (before ++ run ∷ after) → from ≤ run.first
first-behind from capacity [] run after free = free.0
first-behind from capacity (other ∷ before) run after free =
    omega (arith, free.0, first-behind (other.first + other.blocks + 1) capacity before run after free.3)

-- they have no more blocks than there is room
pub count-within : (from capacity : ℕ) (runs : List Run) → AreFreeRunsFrom from capacity runs → length (blocks_in runs) ≤ capacity - from
count-within from capacity [] free = omega arith
count-within from capacity (run ∷ runs) free =
    omega (
      arith,
      free.0,
      free.2,
      count-within (run.first + run.blocks + 1) capacity runs free.3,
      length-append (blocks_in_run run) (blocks_in runs),
      length-range_with_len run.first run.blocks,
    )

-- a run has a block and ends within the capacity
pub run-within : (from capacity : ℕ) (runs : List Run) (at : ℕ) (d : Run) → AreFreeRunsFrom from capacity runs → at < length runs → (1 ≤ (get_or runs at d).blocks) × ((get_or runs at d).first + (get_or runs at d).blocks ≤ capacity)
run-within from capacity [] at d free less = absurd (omega (arith, less))
run-within from capacity (run ∷ runs) zero d free less = (free.1, free.2)
run-within from capacity (run ∷ runs) (suc at) d free less = run-within (run.first + run.blocks + 1) capacity runs at d free.3 (omega (arith, less))

-- a run below a capacity of 32 bits ends below 2 ^ 32
pub run-fits : (capacity : ℕ) (runs : List Run) (at : ℕ) (run : Run) → AreFreeRuns capacity runs → at < length runs → capacity < 2 ^ 32 → run ≡ get_or runs at run → run.first + run.blocks < 2 ^ 32
run-fits capacity runs at run free inside small is =
    let size = (run-within 0 capacity runs at run free inside).1 in
    let here = subst (λ (r : Run). r.first + r.blocks ≤ capacity) (sym is) size in
    omega (arith, small, here)
