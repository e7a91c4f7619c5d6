-- Nodes of a tree that is seen.
use Rattle.std.proofs.Common.{◌≡◌, ℕ, ◌+◌, ◌≤◌, List, ◌∷◌, ◌++◌, length, Option, Some, None, Box, sym, ap, ◌∙◌, arith}
use Rattle.std.specs.declared.alloc.Global.{Global}
use Rattle.std.specs.Prelude.{MatchOption}
use Rattle.sf_types.specs.Values.Marks.{Marked}
use Rattle.sf_piece_tree.specs.declared.tree.Node.{Node}
use Rattle.sf_piece_tree.specs.Contents.{joined_content, LiesIn}
use Rattle.sf_piece_tree.specs.Inside.Shapes.{Shape}
use Rattle.sf_piece_tree.specs.Inside.Nodes.{shape_of}
use Rattle.sf_piece_tree.proofs.ContentLemmas.{length-content_node, LiesIn-beyond}

-- the units of a tree with this root
pub units-at : {P : Type 0} {root : Option (Box (Node P) Global)} {shape : Shape P} {node : Box (Node P) Global} → shape_of root ≡ shape → root ≡ Some node → shape.units ≡ node.value.left.units ++ node.value.unit ∷ node.value.right.units
units-at {P} {root} {shape} {node} view is = ap (λ (s : Shape P). s.units) (sym view ∙ ap shape_of is)

-- what is found beyond a unit
pub found-beyond : {P X : Type 0} (content : P → List Marked) (xs : List P) (unit : P) (ys : List P) (at rest : ℕ) (unit_of : X → P) (offset_of : X → ℕ) (found : Option X) → at ≡ length (joined_content content xs) + length (content unit) + rest → MatchOption found (length (joined_content content ys) ≤ rest) (λ f. LiesIn content ys rest (unit_of f) (offset_of f)) → MatchOption found (length (joined_content content (xs ++ unit ∷ ys)) ≤ at) (λ f. LiesIn content (xs ++ unit ∷ ys) at (unit_of f) (offset_of f))
found-beyond content xs unit ys at rest unit_of offset_of None at_is most =
    omega (arith, length-content_node content xs unit ys)
found-beyond content xs unit ys at rest unit_of offset_of (Some f) at_is lies = LiesIn-beyond content xs unit at rest at_is lies
