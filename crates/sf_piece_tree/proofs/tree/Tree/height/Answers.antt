use Rattle.std.proofs.Common.{length, arith}
use Rattle.sf_piece_tree.specs.Inside.Nodes.{IsNode, node_shape}
use Rattle.sf_piece_tree.proofs.DepthLemmas.{height_fits}
use Rattle.sf_piece_tree.proofs.tree.Tree.height.Goals as goal

pub returns-in-Some-clause-low : goal.returns-in-Some-clause-low
returns-in-Some-clause-low g c =
    let node : IsNode g.P.Unit.content g.P.Unit.weight c.in-Some.node.value = rw c.in-Some.is at c.self.invariant in
    rw c.deref.ensures
    (height_fits c.in-Some.node.value.tally.height (length (node_shape c.in-Some.node.value).units) node.tally.shallow (omega (arith, node.tally.most_pieces, node.fits)))
