use Rattle.std.proofs.Common.{◌∙◌, take, arith}
use Rattle.std.specs.List.{concat}
use Rattle.std.proofs.lemmas.List.{take_all}
use Rattle.sf_model.proofs.PieceLemmas.{joined_more}
use Rattle.sf_model.proofs.value.sum_of_pieces.Goals as goal

pub loop-piece-preserved : goal.loop-piece-preserved
loop-piece-preserved c =
    let step = c.update.ensures (concat (take c.loop-piece.piece-index c.args.pieces.now)) c.loop-piece.invariant in
    let more = joined_more c.args.pieces.now c.loop-piece.piece-index c.piece-item.result c.loop-piece-test.true c.piece-item.is in
    rw more (rw c.as_bytes.ensures at step)

pub returns : goal.returns
returns c = c.new.ensures ∙ c.finalize.ensures (concat c.args.pieces.now) (rw (take_all c.loop-piece.piece-index c.args.pieces.now (omega arith)) at c.loop-piece.invariant)
