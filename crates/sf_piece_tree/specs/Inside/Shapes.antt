-- What trees are seen as (our own).
use Rattle.std.specs.Prelude.{◌≡◌, ℕ, ◌+◌, ◌/◌, ◌^◌, ◌≤◌, List, length}
use Rattle.sf_types.specs.Values.Marks.{Marked}
use Rattle.sf_piece_tree.specs.declared.tally.Tally.{Tally}
use Rattle.sf_piece_tree.specs.Contents.{joined_content, weight_of}

-- A tree is seen as its units in order, and its height: the greatest number of nodes on a walk down from the root.
pub record Shape (P : Type 0) : Type 0 where
  pub units : List P
  pub height : ℕ

-- Neither height is more than one above the other.
abbrev pub AreBalanced : ℕ → ℕ → Type 0
AreBalanced left right = (left ≤ right + 1) × (right ≤ left + 1)

-- What a tree keeps of its units. Each has a byte and no more weight than bytes, and a balanced tree is shallow. A tree of
-- any form has fewer units than 2 to the power of its height.
pub record IsTally {P : Type 0} (content : P → List Marked) (weight : P → ℕ) (shape : Shape P) (tally : Tally) : Type 0 where
  pub height : tally.height ≡ shape.height
  pub pieces : tally.pieces ≡ length shape.units
  pub size : tally.size ≡ length (joined_content content shape.units)
  pub weight_is : tally.weight ≡ weight_of weight shape.units
  pub most_pieces : length shape.units ≤ length (joined_content content shape.units)
  pub most_weight : weight_of weight shape.units ≤ length (joined_content content shape.units)
  pub shallow : 2 ^ (shape.height / 2) ≤ length shape.units + 1
  pub deep : length shape.units + 1 ≤ 2 ^ shape.height
