-- What a node keeps of its units, from what its sides keep of theirs.
use Rattle.std.proofs.Common.{◌≡◌, ℕ, ◌+◌, ◌/◌, ◌^◌, ◌≤◌, max, List, ◌∷◌, ◌++◌, length, refl, arith, length-append}
use Rattle.sf_types.specs.Values.Marks.{Marked}
use Rattle.sf_piece_tree.specs.declared.tally.Tally.{Tally}
use Rattle.sf_piece_tree.specs.Contents.{joined_content, weight_of}
use Rattle.sf_piece_tree.specs.Inside.Shapes.{Shape, IsTally, AreBalanced}
use Rattle.sf_piece_tree.proofs.ContentLemmas.{length-content_node, weight_node}
use Rattle.sf_piece_tree.proofs.DepthLemmas.{shallow_node, deep_node}

module _ {P : Type 0} (content : P → List Marked) (weight : P → ℕ) (left : Shape P) (unit : P) (right : Shape P) (below beyond : Tally) (lower : IsTally content weight left below) (upper : IsTally content weight right beyond) (some : 1 ≤ length (content unit)) (light : weight unit ≤ length (content unit)) where
  -- the units, the bytes and the weights of all
  pub pieces_node : length (left.units ++ unit ∷ right.units) ≡ below.pieces + 1 + beyond.pieces
  pieces_node = omega (arith, length-append left.units (unit ∷ right.units), lower.pieces, upper.pieces)

  pub size_node : length (joined_content content (left.units ++ unit ∷ right.units)) ≡ below.size + length (content unit) + beyond.size
  size_node = omega (arith, length-content_node content left.units unit right.units, lower.size, upper.size)

  pub total_weight : weight_of weight (left.units ++ unit ∷ right.units) ≡ below.weight + weight unit + beyond.weight
  total_weight = omega (arith, weight_node weight left.units unit right.units, lower.weight_is, upper.weight_is)

  -- what is kept of all
  pub tally_node : AreBalanced left.height right.height → (height pieces size heavy : ℕ) → height ≡ max left.height right.height + 1 → pieces ≡ below.pieces + 1 + beyond.pieces → size ≡ below.size + length (content unit) + beyond.size → heavy ≡ below.weight + weight unit + beyond.weight → IsTally content weight (record { units = left.units ++ unit ∷ right.units; height = height }) (record { height = height; pieces = pieces; size = size; weight = heavy })
  tally_node balanced height pieces size heavy height_is pieces_are size_is weight_is =
      let shallow : 2 ^ ((max left.height right.height + 1) / 2) ≤ length left.units + 1 + length right.units + 1 = shallow_node left.height right.height (length left.units) (length right.units) balanced lower.shallow upper.shallow in
      let deep : length left.units + 1 + length right.units + 1 ≤ 2 ^ (max left.height right.height + 1) = deep_node left.height right.height (length left.units) (length right.units) lower.deep upper.deep in
      record {
        height = refl;
        pieces = omega (arith, pieces_node);
        size = omega (arith, size_node);
        weight_is = omega (arith, total_weight);
        most_pieces = omega (arith, pieces_node, size_node, lower.most_pieces, upper.most_pieces, lower.pieces, upper.pieces, lower.size, upper.size);
        most_weight = omega (arith, total_weight, size_node, lower.most_weight, upper.most_weight, lower.weight_is, upper.weight_is, lower.size, upper.size);
        shallow = rw height_is (omega (arith, shallow, pieces_node, lower.pieces, upper.pieces));
        deep = rw height_is (omega (arith, deep, pieces_node, lower.pieces, upper.pieces));
      }
