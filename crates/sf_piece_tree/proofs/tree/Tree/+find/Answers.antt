use Rattle.std.proofs.Common.{arith}
use Rattle.sf_piece_tree.proofs.NodeLemmas.{units-at, found-beyond}
use Rattle.sf_piece_tree.proofs.tree.Tree.+find.Goals as goal

pub returns-else-offset-size : goal.returns-else-offset-size
returns-else-offset-size g t c =
    let node = c.in-Some.node.value in
    let before = rw c.deref.ensures at c.size-before.ensures in
    let size = rw c.deref-in-Some.ensures at c.size-size.ensures.size in
    rw (units-at c.self.view_is c.in-Some.is)
    (found-beyond g.P.Unit.content node.left.units node.unit node.right.units _ _ (λ f. f.0.now) (λ f. f.1) c.find-in-Some.result (omega arith) (rw c.deref-in-Some-2.ensures at c.find-in-Some.ensures))
