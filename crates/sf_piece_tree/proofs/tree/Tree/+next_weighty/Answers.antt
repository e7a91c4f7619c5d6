use Rattle.std.proofs.Common.{◌≡◌, ◌+◌, ◌-◌, ◌<◌, ◌≤◌, [], ◌∷◌, Some, None, length, sym, ap, ◌∙◌, arith}
use Rattle.sf_piece_tree.specs.Contents.{joined_content}
use Rattle.sf_piece_tree.specs.Weights.{weighty_byte}
use Rattle.sf_piece_tree.specs.Inside.Nodes.{IsNode, node_shape}
use Rattle.sf_piece_tree.proofs.ContentLemmas.{length-content_node}
use Rattle.sf_piece_tree.proofs.NodeLemmas.{units-at}
use Rattle.sf_piece_tree.proofs.WeightLemmas.{weighty-light, weighty-behind, weighty-within, found-left, found-unit, found-right}
use Rattle.sf_piece_tree.proofs.tree.Tree.+next_weighty.Goals as goal

pub returns-then-deref-eq0 : goal.returns-then-deref-eq0
returns-then-deref-eq0 g t c =
    let node = c.in-Some.node.value in
    let is : IsNode g.P.Unit.content g.P.Unit.weight node = rw c.in-Some.is at c.self.invariant in
    let none : node.tally.weight ≡ 0 = rw c.deref.ensures at c.if-deref-eq0.true in
    rw (units-at c.self.view_is c.in-Some.is)
    (sym (weighty-light g.P.Unit.content g.P.Unit.weight (node_shape node).units c.args.at (omega (arith, is.tally.weight_is, none))))

pub returns-then-deref-at : goal.returns-then-deref-at
returns-then-deref-at g t c =
    let node = c.in-Some.node.value in
    let is : IsNode g.P.Unit.content g.P.Unit.weight node = rw c.in-Some.is at c.self.invariant in
    let least : node.tally.size ≤ c.args.at = rw c.deref-in-Some.ensures at c.if-deref-at.true in
    rw (units-at c.self.view_is c.in-Some.is)
    (sym (weighty-behind g.P.Unit.content g.P.Unit.weight (node_shape node).units c.args.at (omega (arith, is.tally.size, least))))

pub returns-in-Some-next_weighty : goal.returns-in-Some-next_weighty
returns-in-Some-next_weighty g t c =
    let node = c.in-Some.node.value in
    rw (units-at c.self.view_is c.in-Some.is)
    (found-left g.P.Unit.content g.P.Unit.weight node.left.units node.unit node.right.units c.args.at c.in-Some-next_weighty.found
    (sym (rw c.deref-in-Some-2.ensures at c.next_weighty.ensures) ∙ c.in-Some-next_weighty.is))

pub returns-in-Some-weighty_in : goal.returns-in-Some-weighty_in
returns-in-Some-weighty_in g t c =
    let content = g.P.Unit.content in
    let weight = g.P.Unit.weight in
    let node = c.in-Some.node.value in
    let before : c.size-before.result ≡ length (joined_content content node.left.units) = rw c.deref-in-Some-3.ensures at c.size-before.ensures in
    let offset : c.saturating_sub-offset.result ≡ c.args.at - length (joined_content content node.left.units) = omega (arith, c.saturating_sub-offset.ensures, before) in
    let left : weighty_byte content weight node.left.units c.args.at ≡ None = sym (rw c.deref-in-Some-2.ensures at c.next_weighty.ensures) ∙ c.in-None-next_weighty.is in
    let here : weighty_byte content weight (node.unit ∷ []) (c.args.at - length (joined_content content node.left.units)) ≡ Some c.in-Some-weighty_in.found =
    ap (λ n. weighty_byte content weight (node.unit ∷ []) n) (sym offset) ∙ sym (rw c.deref-in-Some-4.ensures at c.weighty_in.ensures) ∙ c.in-Some-weighty_in.is in
    rw (units-at c.self.view_is c.in-Some.is)
    (ap (λ n. Some (n + c.in-Some-weighty_in.found)) before
    ∙ found-unit content weight node.left.units node.unit node.right.units c.args.at c.in-Some-weighty_in.found left here)

pub overflow_add-result-in-Some-next_weighty-2-2 : goal.overflow_add-result-in-Some-next_weighty-2-2
overflow_add-result-in-Some-next_weighty-2-2 g t c =
    let content = g.P.Unit.content in
    let node = c.in-Some.node.value in
    let is : IsNode content g.P.Unit.weight node = rw c.in-Some.is at c.self.invariant in
    let before : c.size-before.result ≡ length (joined_content content node.left.units) = rw c.deref-in-Some-3.ensures at c.size-before.ensures in
    let through : c.size-through.result ≡ length (content node.unit) = rw c.deref-in-Some-5.ensures at c.size-through.ensures.size in
    let right : weighty_byte content g.P.Unit.weight node.right.units c.saturating_sub.result ≡ Some c.in-Some-next_weighty-2.found =
    sym (rw c.deref-in-Some-6.ensures at c.next_weighty-in-Some.ensures) ∙ c.in-Some-next_weighty-2.is in
    let within : c.in-Some-next_weighty-2.found < length (joined_content content node.right.units) = rw right at (weighty-within content g.P.Unit.weight node.right.units c.saturating_sub.result) in
    omega (arith, is.fits, length-content_node content node.left.units node.unit node.right.units, before, through, within)

pub returns-in-Some-next_weighty-2 : goal.returns-in-Some-next_weighty-2
returns-in-Some-next_weighty-2 g t c =
    let content = g.P.Unit.content in
    let weight = g.P.Unit.weight in
    let node = c.in-Some.node.value in
    let size = length (joined_content content node.left.units) in
    let before : c.size-before.result ≡ size = rw c.deref-in-Some-3.ensures at c.size-before.ensures in
    let through : c.size-through.result ≡ length (content node.unit) = rw c.deref-in-Some-5.ensures at c.size-through.ensures.size in
    let offset : c.saturating_sub-offset.result ≡ c.args.at - size = omega (arith, c.saturating_sub-offset.ensures, before) in
    let behind : c.saturating_sub.result ≡ c.args.at - size - length (content node.unit) = omega (arith, c.saturating_sub.ensures, offset, through) in
    let left : weighty_byte content weight node.left.units c.args.at ≡ None = sym (rw c.deref-in-Some-2.ensures at c.next_weighty.ensures) ∙ c.in-None-next_weighty.is in
    let here : weighty_byte content weight (node.unit ∷ []) (c.args.at - size) ≡ None =
    ap (λ n. weighty_byte content weight (node.unit ∷ []) n) (sym offset) ∙ sym (rw c.deref-in-Some-4.ensures at c.weighty_in.ensures) ∙ c.in-None-weighty_in.is in
    let right : weighty_byte content weight node.right.units (c.args.at - size - length (content node.unit)) ≡ Some c.in-Some-next_weighty-2.found =
    ap (λ n. weighty_byte content weight node.right.units n) (sym behind) ∙ sym (rw c.deref-in-Some-6.ensures at c.next_weighty-in-Some.ensures) ∙ c.in-Some-next_weighty-2.is in
    rw (units-at c.self.view_is c.in-Some.is)
    (ap (λ n. Some (n + c.in-Some-next_weighty-2.found)) (omega (arith, before, through))
    ∙ found-right content weight node.left.units node.unit node.right.units c.args.at (Some c.in-Some-next_weighty-2.found) left here right)

pub returns-in-None-next_weighty-2 : goal.returns-in-None-next_weighty-2
returns-in-None-next_weighty-2 g t c =
    let content = g.P.Unit.content in
    let weight = g.P.Unit.weight in
    let node = c.in-Some.node.value in
    let size = length (joined_content content node.left.units) in
    let before : c.size-before.result ≡ size = rw c.deref-in-Some-3.ensures at c.size-before.ensures in
    let through : c.size-through.result ≡ length (content node.unit) = rw c.deref-in-Some-5.ensures at c.size-through.ensures.size in
    let offset : c.saturating_sub-offset.result ≡ c.args.at - size = omega (arith, c.saturating_sub-offset.ensures, before) in
    let behind : c.saturating_sub.result ≡ c.args.at - size - length (content node.unit) = omega (arith, c.saturating_sub.ensures, offset, through) in
    let left : weighty_byte content weight node.left.units c.args.at ≡ None = sym (rw c.deref-in-Some-2.ensures at c.next_weighty.ensures) ∙ c.in-None-next_weighty.is in
    let here : weighty_byte content weight (node.unit ∷ []) (c.args.at - size) ≡ None =
    ap (λ n. weighty_byte content weight (node.unit ∷ []) n) (sym offset) ∙ sym (rw c.deref-in-Some-4.ensures at c.weighty_in.ensures) ∙ c.in-None-weighty_in.is in
    let right : weighty_byte content weight node.right.units (c.args.at - size - length (content node.unit)) ≡ None =
    ap (λ n. weighty_byte content weight node.right.units n) (sym behind) ∙ sym (rw c.deref-in-Some-6.ensures at c.next_weighty-in-Some.ensures) ∙ c.in-None-next_weighty-2.is in
    rw (units-at c.self.view_is c.in-Some.is)
    (found-right content weight node.left.units node.unit node.right.units c.args.at None left here right)
