use Rattle.std.proofs.Common.{◌≡◌, ◌≤◌, length, arith}
use Rattle.sf_piece_tree.proofs.ContentLemmas.{length-content_node}
use Rattle.sf_piece_tree.proofs.TallyLemmas.{tally_node}
use Rattle.sf_piece_tree.proofs.DepthLemmas.{height_fits}
use Rattle.sf_piece_tree.proofs.tree.tie.Goals as goal

pub overflow_add-max : goal.overflow_add-max
overflow_add-max g c =
    let size = length-content_node g.P.Unit.content c.args.left.units c.args.middle.value.unit c.args.right.units in
    let below = height_fits c.args.left.height (length c.args.left.units) c.tally-below.ensures.shallow (omega arith) in
    let beyond = height_fits c.args.right.height (length c.args.right.units) c.tally-beyond.ensures.shallow (omega arith) in
    omega arith

pub invariant_of-result : goal.invariant_of-result
invariant_of-result g c =
    let content = g.P.Unit.content in
    let weight = g.P.Unit.weight in
    let unit = c.args.middle.value.unit in
    let size : c.size.result ≡ length (content unit) = rw c.deref.ensures at c.size.ensures.size in
    let heavy : c.weight.result ≡ weight unit = rw c.deref-2.ensures at c.weight.ensures.weight in
    let light : c.weight.result ≤ length (content unit) = rw c.deref-2.ensures at c.weight.ensures.most in
    rw (c.deref_mut-4.ensures.value, c.deref_mut-2.ensures.value, c.deref_mut.ensures.value)
    (record {
      height = omega arith;
      balanced = c.requires.balanced;
      tally = tally_node content weight c.args.left unit c.args.right c.tally-below.result c.tally-beyond.result c.tally-below.ensures c.tally-beyond.ensures (omega (arith, c.size.ensures.some)) (omega arith) c.requires.balanced _ _ _ _ (omega arith) (omega arith) (omega arith) (omega arith);
      fits = c.requires.fits;
    })
