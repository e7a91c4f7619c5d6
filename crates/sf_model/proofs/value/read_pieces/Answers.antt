use Rattle.std.proofs.lemmas.List.{take_rest}
use Rattle.sf_model.proofs.PieceLemmas.{read_on}
use Rattle.sf_model.proofs.value.read_pieces.Goals as goal

pub loop-piece-preserved : goal.loop-piece-preserved
loop-piece-preserved c =
    rw c.in_ok-extend_from_slice.ensures.items
    (read_on c.args.pieces.now c.loop-piece.piece-index c.piece-item.result c.as_bytes-part.result.now _ c.loop-piece.bytes.items _ c.loop-piece.skip c.loop-piece.left c.min-from.result c.min-moved.result c.loop-piece-test.true c.piece-item.is c.as_bytes-part.ensures c.min-from.ensures (take_rest c.as_bytes-part.result.now c.min-from.result) c.min-moved.ensures c.loop-piece.invariant)
