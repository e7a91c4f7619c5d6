use Rattle.std.proofs.Common.{◌-◌, ◌<◌, ◌≤◌, ◌∷◌, length, arith}
use Rattle.sf_piece_tree.specs.Contents.{joined_content}
use Rattle.sf_piece_tree.specs.Walks.{whole_units, units_from}
use Rattle.sf_piece_tree.proofs.NodeLemmas.{units-at}
use Rattle.sf_piece_tree.proofs.WalkLemmas.{Walks-append, Walks-ended, units_from-left, units_from-between, units_from-beyond}
use Rattle.sf_piece_tree.proofs.tree.Tree.+visit_from.Goals as goal

pub returns-then-not-visit_from : goal.returns-then-not-visit_from
returns-then-not-visit_from g t c =
    let node = c.in-Some.node.value in
    let content = g.P.Unit.content in
    let before = rw c.deref.ensures at c.size-before.ensures in
    let within : c.args.at < length (joined_content content node.left.units) = omega arith in
    rw (units-at c.self.view_is c.in-Some.is, units_from-left content node.left.units (node.unit ∷ node.right.units) c.args.at within)
    (Walks-ended g.V.Visitor.visits (units_from content node.left.units c.args.at) (whole_units (node.unit ∷ node.right.units)) c.args.visitor.now c.visit_from.new.visitor (rw (c.deref-then-at-before.ensures, c.if-not-visit_from.true) at c.visit_from.ensures))

pub returns-then-at-before : goal.returns-then-at-before
returns-then-at-before g t c =
    let node = c.in-Some.node.value in
    let content = g.P.Unit.content in
    let before = rw c.deref.ensures at c.size-before.ensures in
    let within : c.args.at < length (joined_content content node.left.units) = omega arith in
    rw (units-at c.self.view_is c.in-Some.is, units_from-left content node.left.units (node.unit ∷ node.right.units) c.args.at within)
    (Walks-append g.V.Visitor.visits (units_from content node.left.units c.args.at) (whole_units (node.unit ∷ node.right.units)) c.args.visitor.now c.visit_from.new.visitor c.visit_rest.new.visitor c.visit_rest.result (rw (c.deref-then-at-before.ensures, c.if-not-visit_from.false) at c.visit_from.ensures) (rw c.deref-then-at-before-2.ensures at c.visit_rest.ensures))

pub returns-then-offset-size : goal.returns-then-offset-size
returns-then-offset-size g t c =
    let node = c.in-Some.node.value in
    let content = g.P.Unit.content in
    let before = rw c.deref.ensures at c.size-before.ensures in
    let size = rw c.deref-in-Some.ensures at c.size-size.ensures.size in
    let least : length (joined_content content node.left.units) ≤ c.args.at = omega arith in
    let within : c.args.at - length (joined_content content node.left.units) < length (content node.unit) = omega arith in
    rw (units-at c.self.view_is c.in-Some.is, units_from-between content node.left.units node.unit node.right.units c.args.at least within)
    (rw (c.deref-then-offset-size.ensures, before) at c.visit_rest-then-offset-size.ensures)

pub returns-else-offset-size : goal.returns-else-offset-size
returns-else-offset-size g t c =
    let node = c.in-Some.node.value in
    let content = g.P.Unit.content in
    let before = rw c.deref.ensures at c.size-before.ensures in
    let size = rw c.deref-in-Some.ensures at c.size-size.ensures.size in
    let least : length (joined_content content node.left.units) ≤ c.args.at = omega arith in
    let beyond : length (content node.unit) ≤ c.args.at - length (joined_content content node.left.units) = omega arith in
    rw (units-at c.self.view_is c.in-Some.is, units_from-beyond content node.left.units node.unit node.right.units c.args.at least beyond)
    (rw (c.deref-in-Some-2.ensures, before, size) at c.visit_from-in-Some.ensures)
