-- What the private types of dispensers keep, and what their steps do to runs (our own).
use Rattle.std.specs.Prelude.{◌≡◌, ℕ, ◌+◌, ◌%◌, ◌^◌, ◌<◌, ◌≤◌, ◌⊎◌, List, [], ◌∷◌, ◌++◌, length, slice_get, Some}
use Rattle.std.specs.Int.RustNames.{count_ones}
use Rattle.atomic_table.specs.Seated.{TableId}
use Rattle.sf_types.specs.declared.options.Options.{Options}
use Rattle.sf_types.specs.declared.run.Run.{Run}
use Rattle.sf_types.specs.Rooms.{Roomy}
use Rattle.sf_types.specs.Space.BlockRuns.{blocks_in, blocks_in_run}
use Rattle.sf_space_words.specs.Blocks.{times, blocks_of_mask}
use Rattle.sf_space_words.specs.Seats.{BlockSeat}
use Rattle.sf_dispensers.specs.Seats.{IsSeatOf}

-- The identity of no words.
abbrev pub no_table : TableId
no_table = record { words = 0; slots = 0; views_name = 0; atom = 0; block = 0; offset = 0; slot_names = [] }

-- Two runs touch where one of them begins behind the other's last block.
abbrev pub Touches : Run → Run → Type 0
Touches run other = (run.first + run.blocks ≡ other.first) ⊎ (other.first + other.blocks ≡ run.first)

-- No run can be joined with this one: with each that it touches it has more blocks than a `u32` can say.
abbrev pub NoneJoins : List Run → Run → Type 0
NoneJoins runs run = (at : ℕ) (other : Run) → slice_get runs at ≡ Some other → Touches other run → 2 ^ 32 ≤ other.blocks + run.blocks

-- Two runs as one have the blocks of both.
pub record IsJoined (run other both : Run) : Type 0 where
  pub blocks : (block : ℕ) → times block (blocks_in_run both) ≡ times block (blocks_in_run run) + times block (blocks_in_run other)
  pub count : both.blocks ≡ run.blocks + other.blocks

-- Runs with the blocks of one run more.
pub record GainsRun (runs more : List Run) (run : Run) : Type 0 where
  pub blocks : (block : ℕ) → times block (blocks_in more) ≡ times block (blocks_in runs) + times block (blocks_in_run run)
  pub count : length (blocks_in more) ≡ length (blocks_in runs) + run.blocks

-- Runs with the blocks of others more.
abbrev pub GainsRuns : List Run → List Run → List Run → Type 0
GainsRuns runs more others = (block : ℕ) → times block (blocks_in more) ≡ times block (blocks_in runs) + times block (blocks_in others)

-- Runs with the blocks more that a mask for a word names.
pub record GainsMask (runs more : List Run) (word mask : ℕ) : Type 0 where
  pub blocks : (block : ℕ) → times block (blocks_in more) ≡ times block (blocks_in runs) + times block (blocks_of_mask word mask)
  pub count : length (blocks_in more) ≡ length (blocks_in runs) + count_ones mask

-- The bits of a word below some place, and none from there on.
abbrev pub AreLowestBits : ℕ → ℕ → Type 0
AreLowestBits word bits = (place : ℕ) × (bits ≡ word % 2 ^ place)

-- Runs of which one was cut off, or its first blocks.
abbrev pub CutsRun : List Run → List Run → Run → Type 0
CutsRun runs left run = (block : ℕ) → times block (blocks_in runs) ≡ times block (blocks_in left) + times block (blocks_in_run run)

-- The first run, where it has a block, ends where a `u32` can say so.
abbrev pub EndsWithin : List Run → Type 0
EndsWithin runs = (run : Run) → slice_get runs 0 ≡ Some run → 1 ≤ run.blocks → run.first + run.blocks < 2 ^ 32

-- A gathering: how many blocks it has, how many are wanted, for how many runs more it has room, and how often its seat
-- claimed, modulo 2^64.
pub record Progress : Type 0 where
  pub block_count : ℕ
  pub wanted_blocks : ℕ
  pub room : ℕ
  pub claim_count : ℕ

-- A gathering's seat has just the blocks of its runs and of the last run, so many, and not more than are wanted. There is
-- room for the last run among the others.
pub record IsGathering (space : TableId) (options : Options) (seat : BlockSeat) (runs : Roomy (List Run)) (last_run : Run) (block_count wanted_blocks : ℕ) : Type 0 where
  pub own : IsSeatOf space options seat (runs.held ++ last_run ∷ [])
  pub total : block_count ≡ length (blocks_in (runs.held ++ last_run ∷ []))
  pub few : block_count ≤ wanted_blocks
  pub room : 1 ≤ runs.spare
