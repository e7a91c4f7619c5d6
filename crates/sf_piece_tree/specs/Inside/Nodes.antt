-- What the nodes of a tree are seen as, and what holds of each (our own).
use Rattle.std.specs.Prelude.{◌≡◌, ℕ, ◌+◌, ◌^◌, ◌<◌, max, List, [], ◌∷◌, ◌++◌, Option, Some, None, Box, length}
use Rattle.std.specs.declared.alloc.Global.{Global}
use Rattle.sf_types.specs.Values.Marks.{Marked}
use Rattle.sf_piece_tree.specs.declared.tree.Node.{Node}
use Rattle.sf_piece_tree.specs.Contents.{joined_content}
use Rattle.sf_piece_tree.specs.Inside.Shapes.{Shape, AreBalanced, IsTally}

-- The units of a node and of the trees on its two sides, and the height that it keeps.
abbrev pub node_shape : {P : Type 0} → Node P → Shape P
node_shape node = record { units = node.left.units ++ node.unit ∷ node.right.units; height = node.tally.height }

-- What the tree with this root is seen as.
abbrev pub shape_of : {P : Type 0} → Option (Box (Node P) Global) → Shape P
shape_of None = record { units = []; height = 0 }
shape_of (Some node) = node_shape node.value

-- A node is one higher than the higher of its sides, which are balanced, and keeps what it says of its units.
pub record IsNode {P : Type 0} (content : P → List Marked) (weight : P → ℕ) (node : Node P) : Type 0 where
  pub height : node.tally.height ≡ max node.left.height node.right.height + 1
  pub balanced : AreBalanced node.left.height node.right.height
  pub tally : IsTally content weight (node_shape node) node.tally
  pub fits : length (joined_content content (node_shape node).units) < 2 ^ 64

-- The root of a tree, where it has one, is such a node.
abbrev pub IsRooted : {P : Type 0} → (P → List Marked) → (P → ℕ) → Option (Box (Node P) Global) → Type 0
IsRooted content weight None = Unit {0}
IsRooted content weight (Some node) = IsNode content weight node.value
