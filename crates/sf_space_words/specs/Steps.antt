-- The atomic steps of the words: what each makes of a seat's view, and what it tells its caller (our own).
use Rattle.std.specs.Prelude.{◌≡◌, ℕ, ◌+◌, ◌%◌, ◌^◌, ◌<◌, List, ◌++◌}
use Rattle.std.specs.Int.{bit_not}
use mir.Syntax.{w64}
use Rattle.atomic_table.specs.Table.{Me, Step}
use Rattle.sf_space_words.specs.declared.view.View.{View}
use Rattle.sf_space_words.specs.Blocks.{AreBelow, AreBitsPast, AreOwnBits, IsOnce, blocks_of_mask, clear_bits, without_blocks, without_mask}

-- A claim gives the seat the asked blocks whose bits were clear in the word that it found, counts, and notes that word.
abbrev pub view_after_claim : ℕ → ℕ → ℕ → View → View
view_after_claim word mask found v =
    record v { blocks = v.blocks ++ blocks_of_mask word (clear_bits mask found); claim_count = (v.claim_count + 1) % 2 ^ 64; found_word = found }

-- A release takes those blocks of a word from the seat whose bits it doesn't keep.
abbrev pub view_after_release : ℕ → ℕ → View → View
view_after_release word kept v = record v { blocks = without_mask word (bit_not w64 kept) v.blocks }

-- A part takes some blocks from the seat.
abbrev pub view_after_part : List ℕ → View → View
view_after_part part v = record v { blocks = without_blocks part v.blocks }

-- The new seat of a part has these blocks, and has claimed nothing yet.
abbrev pub view_of_part : List ℕ → View → View
view_of_part part v = record { blocks = part; claim_count = 0; found_word = 0; capacity = v.capacity }

-- A merge gives the seat the blocks of another.
abbrev pub view_after_merge : View → View → View
view_after_merge v w = record v { blocks = v.blocks ++ w.blocks }

-- No block of a seat stands twice, and each is below the number of blocks.
abbrev pub IsSound : View → Type 0
IsSound v = IsOnce v.blocks × (0 < v.capacity → AreBelow v.capacity v.blocks)

-- A claim tells the word that it found.
abbrev pub Claims : Step (Unit {0}) → Me (Unit {0}) View → ℕ → Me (Unit {0}) View → Type 0
Claims st m found m' = (m' ≡ (view_after_claim st.word st.first found m.0, m.1)) × IsSound m'.0

-- A release keeps the bits of its mask.
abbrev pub Releases : Step (Unit {0}) → Me (Unit {0}) View → ℕ → Me (Unit {0}) View → Type 0
Releases st m found m' = (m' ≡ (view_after_release st.word st.first m.0, m.1)) × IsSound m'.0

-- A look changes nothing. In the word that it finds the seat's own bits are set, and so are those past the last block.
abbrev pub Looks : Step (Unit {0}) → Me (Unit {0}) View → ℕ → Me (Unit {0}) View → Type 0
Looks st m found m' =
    (m' ≡ m) × IsSound m'.0 × AreOwnBits st.word m.0.blocks found × (0 < m.0.capacity → AreBitsPast st.word m.0.capacity found)
