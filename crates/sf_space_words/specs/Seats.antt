-- What contracts see of the words and of a seat (our own).
use Rattle.std.specs.Prelude.{◌≡◌, ℕ, List}
use Rattle.atomic_table.specs.Seated.{TableId}
use Rattle.sf_space_words.specs.declared.view.View.{View}

-- Words: their identity, and the number of their blocks.
pub record Space : Type 0 where
  pub id : TableId
  pub capacity : ℕ

-- A seat: the words that it is of and the number of their blocks, its own blocks, the number of its claims modulo 2^64, and
-- the word that its last claim found.
pub record BlockSeat : Type 0 where
  pub id : TableId
  pub capacity : ℕ
  pub blocks : List ℕ
  pub claim_count : ℕ
  pub found_word : ℕ

-- A seat is of the words whose identity and number of blocks it has.
abbrev pub IsOf : Space → BlockSeat → Type 0
IsOf space seat = (seat.id ≡ space.id) × (seat.capacity ≡ space.capacity)

-- A seat with these blocks that has claimed nothing yet.
abbrev pub new_seat : TableId → ℕ → List ℕ → BlockSeat
new_seat id capacity blocks = record { id = id; capacity = capacity; blocks = blocks; claim_count = 0; found_word = 0 }

-- What contracts see of a seat with this view.
abbrev pub block_seat : TableId → View → BlockSeat
block_seat id v = record { id = id; capacity = v.capacity; blocks = v.blocks; claim_count = v.claim_count; found_word = v.found_word }
