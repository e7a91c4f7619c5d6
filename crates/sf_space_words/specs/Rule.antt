-- The rule of the words, a fact about them and the views of all seats, which holds between any two atomic steps (our own).
use Rattle.std.specs.Prelude.{◌≡◌, ℕ, ◌*◌, ◌<◌, ◌≤◌, List, [], length}
use Rattle.std.specs.List.{sum_by}
use mathlib.Core.Option.{some}
use lib.ListN.{get_elem?}
use Rattle.atomic_table.specs.Table.{State}
use Rattle.sf_space_words.specs.declared.limits.TheConstants.{WORD_BLOCKS}
use Rattle.sf_space_words.specs.declared.view.View.{View}
use Rattle.sf_space_words.specs.Blocks.{word_count, bit_of, times}

-- How often a block stands in all views together.
abbrev pub times_in_views : ℕ → List View → ℕ
times_in_views block views = sum_by (λ v. times block v.blocks) views

-- A block whose bit is set stands in exactly one view, once, and a block whose bit is clear in none. Bits past the last
-- block are set and stand in no view. A view that isn't spent knows the number of blocks.
pub record SpaceRule (capacity : ℕ) (s : State (Unit {0}) View) : Type 0 where
  pub count : length s.words ≡ word_count capacity
  pub blocks : (block : ℕ) → block < capacity → times_in_views block s.views ≡ bit_of s.words block
  pub none_past : (block : ℕ) → capacity ≤ block → times_in_views block s.views ≡ 0
  pub set_past : (block : ℕ) → capacity ≤ block → block < WORD_BLOCKS * length s.words → bit_of s.words block ≡ 1
  pub capacities : (id : ℕ) (v : View) → get_elem? s.views id ≡ some v → 0 < v.capacity → v.capacity ≡ capacity

-- The view of a seat of so many blocks that has none of them.
abbrev pub view_without_blocks : ℕ → View
view_without_blocks capacity = record { blocks = []; claim_count = 0; found_word = 0; capacity = capacity }

-- A seat that was merged into another is spent, and has no block.
abbrev pub spent_view : View
spent_view = view_without_blocks 0
