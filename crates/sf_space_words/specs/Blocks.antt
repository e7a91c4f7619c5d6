-- Blocks as bits in words, and lists of blocks by how often each stands in them (our own).
use Rattle.std.specs.Prelude.{◌≡◌, ℕ, ◌*◌, ◌/◌, ◌%◌, ◌<◌, ◌≤◌, ◌==◌, ◌&&◌, not, Bool, List, slice_index, bit_and}
use Rattle.std.specs.List.{count_by, filter, range_with_len}
use Rattle.std.specs.Int.{bit_at, bit_not, div_ceil}
use mir.Syntax.{w64}
use Rattle.sf_space_words.specs.declared.limits.TheConstants.{WORD_BLOCKS}

-- How often a block stands in a list.
abbrev pub times : ℕ → List ℕ → ℕ
times block blocks = count_by (λ other. other == block) blocks

-- No block stands twice.
abbrev pub IsOnce : List ℕ → Type 0
IsOnce blocks = (block : ℕ) → times block blocks ≤ 1

-- Each block is below the capacity, which is a number of blocks.
abbrev pub AreBelow : ℕ → List ℕ → Type 0
AreBelow capacity blocks = (block : ℕ) → 0 < times block blocks → block < capacity

-- Each block stands in the first list at least as often as in the second.
abbrev pub Covers : List ℕ → List ℕ → Type 0
Covers blocks asked = (block : ℕ) → times block asked ≤ times block blocks

-- As many words as hold so many blocks.
abbrev pub word_count : ℕ → ℕ
word_count capacity = div_ceil capacity WORD_BLOCKS

-- Block b is bit b % 64 of word b / 64.
abbrev pub bit_of : List ℕ → ℕ → ℕ
bit_of words block = bit_at (slice_index words (block / WORD_BLOCKS)) (block % WORD_BLOCKS)

-- A mask for a word names the blocks of that word whose bits are set in the mask.
abbrev pub is_named : ℕ → ℕ → ℕ → Bool
is_named word mask block = (block / WORD_BLOCKS == word) && (bit_at mask (block % WORD_BLOCKS) == 1)

-- The blocks that a mask for a word names, rising.
unfoldable pub blocks_of_mask : ℕ → ℕ → List ℕ
blocks_of_mask word mask = filter (is_named word mask) (range_with_len (WORD_BLOCKS * word) WORD_BLOCKS)

-- The bits of a mask that are clear in a word.
abbrev pub clear_bits : ℕ → ℕ → ℕ
clear_bits mask word = bit_and mask (bit_not w64 word)

-- Some blocks without those that a mask for a word names.
abbrev pub without_mask : ℕ → ℕ → List ℕ → List ℕ
without_mask word mask blocks = filter (λ block. not (is_named word mask block)) blocks

-- Some blocks without others.
abbrev pub without_blocks : List ℕ → List ℕ → List ℕ
without_blocks others blocks = filter (λ block. times block others == 0) blocks

-- The bits of some blocks are set where they stand in a word.
abbrev pub AreOwnBits : ℕ → List ℕ → ℕ → Type 0
AreOwnBits word blocks bits =
    (block : ℕ) → block / WORD_BLOCKS ≡ word → 0 < times block blocks → bit_at bits (block % WORD_BLOCKS) ≡ 1

-- The bits past the last block are set where they stand in a word.
abbrev pub AreBitsPast : ℕ → ℕ → ℕ → Type 0
AreBitsPast word capacity bits =
    (block : ℕ) → block / WORD_BLOCKS ≡ word → capacity ≤ block → bit_at bits (block % WORD_BLOCKS) ≡ 1
