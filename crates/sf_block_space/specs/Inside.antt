-- Steps of a grant and of a return, which the private type of maximal runs takes (our own).
use Rattle.std.specs.Prelude.{◌≡◌, ℕ, ◌+◌, ◌-◌, ◌≤◌, ◌<◌, min, ◌⊎◌, List, [], ◌∷◌, Some, All, take, slice_get, slice_set, length}
use Rattle.std.specs.List.{remove}
use Rattle.sf_types.specs.declared.run.Run.{Run}
use Rattle.sf_types.specs.Space.BlockRuns.{blocks_in, front_of, rest_of}
use Rattle.sf_types.specs.Rooms.{Roomy}
use Rattle.sf_block_space.specs.Free.{FreeSpace, AreFreeRuns, AreOut, Gains, filled_run_count}

-- First fit: the run at this offset has at least n blocks, and each run before it has fewer.
pub record IsFirstFit (runs : List Run) (n at : ℕ) (run : Run) : Type 0 where
  pub stands : slice_get runs at ≡ Some run
  pub enough : n ≤ run.blocks
  pub lowest : All (λ before. before.blocks < n) (take at runs)

-- The run at this offset is the longest, and the lowest of equals.
pub record IsLongest (runs : List Run) (at : ℕ) (run : Run) : Type 0 where
  pub stands : slice_get runs at ≡ Some run
  pub longest : All (λ other. other.blocks ≤ run.blocks) runs
  pub lowest : All (λ before. before.blocks < run.blocks) (take at runs)

-- A grant of n blocks, run by run: nothing is granted for n = 0. Else, where some run has at least n blocks, the first n of the lowest such run. Where none
-- has, the whole of the longest run, the lowest of equals, and then the others from the runs without it.
abbrev pub IsGrant : List Run → ℕ → List Run → Type 0
IsGrant runs n [] = n ≡ 0
IsGrant runs n (run ∷ granted) =
    ((1 ≤ n) × (granted ≡ []) × ((at : ℕ) × (fit : Run) × IsFirstFit runs n at fit × (run ≡ front_of fit n)))
    ⊎ (All (λ other. other.blocks < n) runs
    × ((at : ℕ) × IsLongest runs at run × IsGrant (remove runs at) (n - run.blocks) granted))

-- The run from which a grant of n blocks begins: by first fit, or else the longest.
abbrev pub IsNext : List Run → ℕ → ℕ → Run → Type 0
IsNext runs n at run =
    IsFirstFit runs n at run ⊎ (All (λ other. other.blocks < n) runs × IsLongest runs at run)

-- One run of a grant of n blocks, and the runs that are left of all. The run is taken whole, or the first n of its blocks.
abbrev pub IsTaken : List Run → ℕ → Run → List Run → Type 0
IsTaken runs n taken left = (at : ℕ) × (run : Run) × IsNext runs n at run × (
    ((run.blocks ≤ n) × (taken ≡ run) × (left ≡ remove runs at))
    ⊎ ((n < run.blocks) × (taken ≡ front_of run n) × (left ≡ slice_set runs at (rest_of run n))))

-- Room for the runs of a grant of n blocks: for one, and where no run has as many for n or all.
pub record IsRoomFor (runs : List Run) (n spare : ℕ) : Type 0 where
  pub one : 1 ≤ n → 1 ≤ length runs → 1 ≤ spare
  pub several : All (λ run. run.blocks < n) runs → min n (length runs) ≤ spare

-- The first run, where there is one, begins at this block or later.
abbrev pub BeginsFrom : ℕ → List Run → Type 0
BeginsFrom block [] = Unit {0}
BeginsFrom block (run ∷ runs) = block ≤ run.first

-- An offset behind the runs that begin before a block, and before those that don't.
pub record IsOffsetOf (runs : List Run) (block at : ℕ) : Type 0 where
  pub within : at ≤ length runs
  pub before : (other : ℕ) → (run : Run) → at ≡ other + 1 → slice_get runs other ≡ Some run → run.first < block
  pub behind : (run : Run) → slice_get runs at ≡ Some run → block ≤ run.first

-- Free blocks that are handed out, in place: they are free no longer, and nothing else changes.
pub record HandsOut (before after : Roomy FreeSpace) (runs : List Run) : Type 0 where
  pub capacity : after.held.capacity ≡ before.held.capacity
  pub order : AreFreeRuns after.held.capacity after.held.runs
  pub left : Gains after.held.runs before.held.runs runs
  pub out : AreOut after.held (blocks_in runs)
  pub fewer : length after.held.runs ≤ length before.held.runs
  pub room : after.spare + length after.held.runs ≡ before.spare + length before.held.runs

-- Blocks that come back, in place: they are free again, and nothing else changes.
pub record TakesBack (before after : Roomy FreeSpace) (runs : List Run) : Type 0 where
  pub capacity : after.held.capacity ≡ before.held.capacity
  pub order : AreFreeRuns after.held.capacity after.held.runs
  pub blocks : Gains before.held.runs after.held.runs runs
  pub more : length after.held.runs ≤ length before.held.runs + filled_run_count runs
  pub room : after.spare + length after.held.runs ≡ before.spare + length before.held.runs
