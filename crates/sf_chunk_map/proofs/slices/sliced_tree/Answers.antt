use Rattle.std.proofs.Common.{List, ◌++◌, sym, ap, ◌∙◌, arith}
use Rattle.sf_types.specs.Values.Marks.{Marked}
use Rattle.sf_chunk_map.specs.declared.parts.Piece.{Piece}
use Rattle.sf_chunk_map.specs.Contents.{window}
use Rattle.sf_chunk_map.specs.Pieces.{marked_of, marked_in}
use Rattle.sf_chunk_map.proofs.PieceLemmas.{marked-push}
use Rattle.sf_chunk_map.proofs.TreeLemmas.{more_window}
use Rattle.sf_chunk_map.proofs.slices.sliced_tree.Goals as goal

pub loop-done-preserved : goal.loop-done-preserved
loop-done-preserved c =
    let piece = c.in-Some.piece.now in
    let old = c.loop-done.slice in
    let part = c.in_ok-part_of.field-0 in
    let count = c.min-count.result in
    record {
      most = omega (arith, c.min-count.ensures, c.loop-done.invariant.most);
      slice =
          ap (λ (pieces : List Piece). marked_in pieces) c.in_ok-push_back.ensures.ok
          ∙ marked-push old part
          ∙ ap (λ (xs : List Marked). xs ++ marked_of part) c.loop-done.invariant.slice
          ∙ ap (λ (xs : List Marked). window c.args.at c.loop-done.done (marked_in c.args.tree.now) ++ xs) c.in_ok-part_of.ensures
          ∙ sym (more_window c.args.tree.now c.args.at c.loop-done.done count c.in-Some.from piece c.in-Some.ensures (omega (arith, c.min-count.ensures, c.size.ensures.size, c.in-Some.ensures.within)));
    }
