use Rattle.std.proofs.Common.{sym}
use Rattle.sf_model.proofs.PieceLemmas.{joined_more}
use Rattle.sf_model.proofs.value.joined.Goals as goal

pub loop-piece-preserved : goal.loop-piece-preserved
loop-piece-preserved c =
    rw (c.in_ok-extend_from_slice.ensures.items, c.loop-piece.invariant, c.as_bytes.ensures)
    (sym (joined_more c.args.pieces.now c.loop-piece.piece-index c.piece-item.result c.loop-piece-test.true c.piece-item.is))
