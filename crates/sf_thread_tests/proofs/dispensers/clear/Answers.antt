use Rattle.std.proofs.Common.{ap, arith}
use Rattle.sf_types.specs.Space.BlockRuns.{blocks_in}
use Rattle.sf_space_words.specs.Blocks.{times}
use Rattle.sf_thread_tests.proofs.dispensers.clear.Goals as goal

pub release-requires-clause-blocks : goal.release-requires-clause-blocks
release-requires-clause-blocks g c = λ b.
    let just = c.into_parts-seat.ensures.seat.just b in
    let same = ap (λ l. times b (blocks_in l)) c.into_parts-seat.ensures.runs in omega arith
