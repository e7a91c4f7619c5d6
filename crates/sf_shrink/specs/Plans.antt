-- Where contents go when the store is made small. The plan is our own.
use Rattle.std.specs.Prelude.{◌≡◌, ◌≢◌, ℕ, ◌<◌, ◌≤◌, List, [], ◌∷◌, map, length, flat_map, All, AllPairs}
use Rattle.std.specs.List.{range_with_len}
use Rattle.sf_types.specs.declared.birth_runs.BirthRuns.{BirthRuns}
use Rattle.sf_types.specs.declared.run.Run.{Run}
use Rattle.sf_types.specs.Inside.Births.{IsRising}
use Rattle.sf_types.specs.Space.BlockRuns.{blocks_in}
use Rattle.sf_types.specs.Space.Placings.{Placed}
use Rattle.sf_types.specs.Space.Plans.{planned_from}
use Rattle.sf_shrink.specs.declared.shifts.Shift.{Shift}

-- The blocks of all places.
abbrev pub blocks_of_places : List BirthRuns → List ℕ
blocks_of_places places = flat_map (λ place. blocks_in place.runs) places

-- Places with rising births, all blocks below the capacity and none named twice.
pub record ArePlaced (places : List BirthRuns) (capacity : ℕ) : Type 0 where
  pub births : IsRising (map (λ place. place.birth) places)
  pub below : All (λ block. block < capacity) (blocks_of_places places)
  pub once : AllPairs (λ block other. block ≢ other) (blocks_of_places places)

-- The blocks of a place.
abbrev pub block_count : BirthRuns → ℕ
block_count place = length (blocks_in place.runs)

-- A birth goes to one run.
abbrev pub shift_to : BirthRuns → Run → Shift
shift_to place run = record { birth = place.birth; to = run ∷ [] }

-- The plan from a block on.
abbrev pub planned_shifts : ℕ → List BirthRuns → List Shift
planned_shifts start places = planned_from block_count shift_to start places

-- The plan: the first run begins at block 0.
abbrev pub planned : List BirthRuns → List Shift
planned places = planned_shifts 0 places

-- The blocks of all shifts.
abbrev pub blocks_of_shifts : List Shift → List ℕ
blocks_of_shifts shifts = flat_map (λ shift. blocks_in shift.to) shifts

-- Shifts that are a safe placing without a gap: the same births, each with as many blocks as before, and together the
-- blocks from 0 on, each once, below the capacity.
pub record IsSafeWithoutGap (places : List BirthRuns) (shifts : List Shift) (capacity : ℕ) : Type 0 where
  pub births : map (λ shift. shift.birth) shifts ≡ map (λ place. place.birth) places
  pub counts : map (λ shift. length (blocks_in shift.to)) shifts ≡ map (λ place. length (blocks_in place.runs)) places
  pub blocks : blocks_of_shifts shifts ≡ range_with_len 0 (length (blocks_of_places places))
  pub below : length (blocks_of_places places) ≤ capacity

-- A place as a birth with its blocks.
abbrev pub placed_at : BirthRuns → Placed
placed_at place = record { birth = place.birth; blocks = blocks_in place.runs }

-- A shift as a birth with the blocks to which it goes.
abbrev pub shifted_to : Shift → Placed
shifted_to shift = record { birth = shift.birth; blocks = blocks_in shift.to }
