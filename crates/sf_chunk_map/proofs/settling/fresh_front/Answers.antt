use Rattle.std.proofs.Common.{sym, arith}
use Rattle.sf_chunk_map.proofs.SettleLemmas.{first_none, first_light, first_fresh}
use Rattle.sf_chunk_map.proofs.settling.fresh_front.Goals as goal

pub returns-in-None : goal.returns-in-None
returns-in-None c = first_none c.args.tree.now (sym c.in-None.ensures)

pub returns-then-weight-gt0 : goal.returns-then-weight-gt0
returns-then-weight-gt0 c =
    first_fresh c.args.tree.now c.in-Some.piece.now c.size-size.result (sym c.in-Some.ensures) (omega (arith, c.weight.ensures.weight, c.if-weight-gt0.true)) c.size-size.ensures.size

pub returns-else-weight-gt0 : goal.returns-else-weight-gt0
returns-else-weight-gt0 c =
    first_light c.args.tree.now c.in-Some.piece.now (sym c.in-Some.ensures) (omega (arith, c.size-size.ensures.size, c.size-size.ensures.some)) (omega (arith, c.weight.ensures.weight, c.if-weight-gt0.false))
