-- Seats of a store's words, and what contracts see of dispensers (our own).
use Rattle.std.specs.Prelude.{◌≡◌, ℕ, List}
use Rattle.atomic_table.specs.Seated.{TableId}
use Rattle.sf_types.specs.declared.options.Options.{Options}
use Rattle.sf_types.specs.declared.run.Run.{Run}
use Rattle.sf_types.specs.Space.BlockRuns.{blocks_in}
use Rattle.sf_space_words.specs.Blocks.{times}
use Rattle.sf_space_words.specs.Seats.{BlockSeat, Space}

-- A store's words have the identity that the store's name says, and as many blocks as its options say.
abbrev pub IsSpaceOf : TableId → Options → Space → Type 0
IsSpaceOf id options space = (space.id ≡ id) × (space.capacity ≡ options.capacity)

-- Blocks are just those of some runs: each stands in both as often.
abbrev pub IsJust : List ℕ → List Run → Type 0
IsJust blocks runs = (block : ℕ) → times block blocks ≡ times block (blocks_in runs)

-- A seat of a store's words that has just the blocks of some runs.
pub record IsSeatOf (space : TableId) (options : Options) (seat : BlockSeat) (runs : List Run) : Type 0 where
  pub id : seat.id ≡ space
  pub capacity : seat.capacity ≡ options.capacity
  pub just : IsJust seat.blocks runs

-- Dispensers: the words whose blocks they give out, and the number of their lists.
pub record Supply : Type 0 where
  pub words : Space
  pub list_count : ℕ
