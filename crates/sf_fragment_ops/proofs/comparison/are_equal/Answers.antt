use Rattle.std.proofs.Common.{◌+◌, ◌≤◌, length, ◌∙◌, arith}
use Rattle.sf_types.specs.Values.Marks.{strip}
use Rattle.sf_chunk_map.specs.Pieces.{marked_of}
use Rattle.sf_fragment_ops.proofs.WindowLemmas.{same_more, differ_within, pieces_eq}
use Rattle.sf_fragment_ops.proofs.comparison.are_equal.Goals as goal

pub returns-then-not-are_same : goal.returns-then-not-are_same
returns-then-not-are_same c =
    let first = c.in-Some.first.now in
    let second = c.in-Some-piece_at.second.now in
    let count = c.min-count.result in
    let first_most : c.in-Some.first_from + count ≤ length (marked_of first) = omega (arith, c.min-count.ensures, c.min-rest.ensures, c.size.ensures.size, c.in-Some.ensures.within) in
    let second_most : c.in-Some-piece_at.second_from + count ≤ length (marked_of second) =
    omega (arith, c.min-count.ensures, c.min-rest.ensures, c.size-in-loop-done.ensures.size, c.in-Some-piece_at.ensures.within) in
    differ_within c.args.left_at c.args.right_at c.args.len c.loop-done.done count (strip c.args.left.now) (strip c.args.right.now)
    (omega (arith, c.min-count.ensures, c.loop-done.invariant.most))
    (c.if-not-are_same.ensures
    ∙ pieces_eq c.args.left.now c.args.right.now (c.args.left_at + c.loop-done.done) (c.args.right_at + c.loop-done.done) first second c.in-Some.first_from c.in-Some-piece_at.second_from count
    c.in-Some.ensures c.in-Some-piece_at.ensures first_most second_most)

pub loop-done-preserved : goal.loop-done-preserved
loop-done-preserved c =
    let first = c.in-Some.first.now in
    let second = c.in-Some-piece_at.second.now in
    let count = c.min-count.result in
    let first_most : c.in-Some.first_from + count ≤ length (marked_of first) = omega (arith, c.min-count.ensures, c.min-rest.ensures, c.size.ensures.size, c.in-Some.ensures.within) in
    let second_most : c.in-Some-piece_at.second_from + count ≤ length (marked_of second) =
    omega (arith, c.min-count.ensures, c.min-rest.ensures, c.size-in-loop-done.ensures.size, c.in-Some-piece_at.ensures.within) in
    record {
      most = omega (arith, c.min-count.ensures, c.loop-done.invariant.most);
      same = same_more c.args.left_at c.args.right_at c.loop-done.done count (strip c.args.left.now) (strip c.args.right.now) c.loop-done.invariant.same
          (c.if-not-are_same.ensures
          ∙ pieces_eq c.args.left.now c.args.right.now (c.args.left_at + c.loop-done.done) (c.args.right_at + c.loop-done.done) first second c.in-Some.first_from c.in-Some-piece_at.second_from count
          c.in-Some.ensures c.in-Some-piece_at.ensures first_most second_most);
    }
