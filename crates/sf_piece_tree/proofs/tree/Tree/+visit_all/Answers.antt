use Rattle.std.proofs.Common.{◌∷◌, inl, inr, refl}
use Rattle.sf_piece_tree.specs.Walks.{whole_units}
use Rattle.sf_piece_tree.proofs.NodeLemmas.{units-at}
use Rattle.sf_piece_tree.proofs.WalkLemmas.{Walks-append, Walks-ended, whole_units-append}
use Rattle.sf_piece_tree.proofs.tree.Tree.+visit_all.Goals as goal

pub returns-then-not-visit_all : goal.returns-then-not-visit_all
returns-then-not-visit_all g t c =
    let node = c.in-Some.node.value in
    rw (units-at c.self.view_is c.in-Some.is, whole_units-append node.left.units (node.unit ∷ node.right.units))
    (Walks-ended g.V.Visitor.visits (whole_units node.left.units) (whole_units (node.unit ∷ node.right.units)) c.args.visitor.now c.visit_all.new.visitor (rw (c.deref.ensures, c.if-not-visit_all.true) at c.visit_all.ensures))

pub returns-then-not-visit : goal.returns-then-not-visit
returns-then-not-visit g t c =
    let node = c.in-Some.node.value in
    rw (units-at c.self.view_is c.in-Some.is, whole_units-append node.left.units (node.unit ∷ node.right.units))
    (Walks-append g.V.Visitor.visits (whole_units node.left.units) (whole_units (node.unit ∷ node.right.units)) c.args.visitor.now c.visit_all.new.visitor c.visit.new.self _ (rw (c.deref.ensures, c.if-not-visit_all.false) at c.visit_all.ensures)
    (inl (rw (c.deref-in-Some.ensures, c.if-not-visit.true) at c.visit.ensures, refl)))

pub returns-else-not-visit : goal.returns-else-not-visit
returns-else-not-visit g t c =
    let node = c.in-Some.node.value in
    rw (units-at c.self.view_is c.in-Some.is, whole_units-append node.left.units (node.unit ∷ node.right.units))
    (Walks-append g.V.Visitor.visits (whole_units node.left.units) (whole_units (node.unit ∷ node.right.units)) c.args.visitor.now c.visit_all.new.visitor c.visit_all-in-Some.new.visitor _ (rw (c.deref.ensures, c.if-not-visit_all.false) at c.visit_all.ensures)
    (inr (c.visit.new.self, rw (c.deref-in-Some.ensures, c.if-not-visit.false) at c.visit.ensures, rw c.deref-in-Some-2.ensures at c.visit_all-in-Some.ensures)))
