-- Contents that move to other blocks (our own).
use Rattle.std.specs.Prelude.{◌≡◌, ◌≢◌, ℕ, ◌<◌, ◌^◌, List, map, length, All, AllPairs, Contains}
use Rattle.std.specs.FinMap as fin
use Rattle.sf_types.specs.Space.BlockRuns.{blocks_in}
use Rattle.sf_shrink.specs.declared.shifts.Shift.{Shift}
use Rattle.sf_shrink.specs.Plans.{blocks_of_shifts}
use Rattle.sf_lifetimes.specs.Ledgers.{Places, occupied_blocks}

-- Shifts that name the live births in rising order, each with as many blocks as before, and that are a safe placing: each
-- block is below 2^32, none stands twice among all, and none in the place of a birth that waits for its first holder.
pub record AreSafeShifts (live waiting : Places) (shifts : List Shift) : Type 0 where
  pub births : map {B = ℕ × ℕ} (λ s. (s.birth, length (blocks_in s.to))) shifts ≡ map {B = ℕ × ℕ} (λ e. (e.0, length (blocks_in e.1))) (fin.entries live)
  pub below : All (λ block. block < 2 ^ 32) (blocks_of_shifts shifts)
  pub once : AllPairs (λ block other. block ≢ other) (blocks_of_shifts shifts)
  pub apart : All (λ block. ¬ (Contains (occupied_blocks waiting) block)) (blocks_of_shifts shifts)
