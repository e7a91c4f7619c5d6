-- What the types of the words and of a seat keep, and how words begin (our own).
use Rattle.std.specs.Prelude.{◌≡◌, ℕ, ◌*◌, ◌^◌, ◌<◌, ◌≤◌, List, [], length}
use Rattle.atomic_table.specs.Table.{Me}
use Rattle.sf_space_words.specs.declared.limits.TheConstants.{WORD_BLOCKS}
use Rattle.sf_space_words.specs.declared.view.View.{View}
use Rattle.sf_space_words.specs.Blocks.{AreBelow, IsOnce, bit_of, word_count}

-- Words at the start: each block's bit is clear, and the bits past the last block are set.
pub record AreOpening (capacity : ℕ) (words : List ℕ) : Type 0 where
  pub count : length words ≡ word_count capacity
  pub clear : (block : ℕ) → block < capacity → bit_of words block ≡ 0
  pub filled : (block : ℕ) → capacity ≤ block → block < WORD_BLOCKS * length words → bit_of words block ≡ 1

-- The table has as many words as its blocks want, and so many are counted.
pub record IsSized (words count capacity : ℕ) : Type 0 where
  pub same : words ≡ count
  pub whole : count ≡ word_count capacity
  pub some : 0 < capacity
  pub few : capacity < 2 ^ 32

-- Between calls a seat holds no slot, isn't spent, and has no block twice and none past the last one.
pub record IsAtRest (me : Me (Unit {0}) View) : Type 0 where
  pub slots : me.1 ≡ []
  pub some : 0 < me.0.capacity
  pub once : IsOnce me.0.blocks
  pub below : AreBelow me.0.capacity me.0.blocks
