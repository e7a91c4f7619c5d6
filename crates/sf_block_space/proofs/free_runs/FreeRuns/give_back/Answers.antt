use Rattle.std.proofs.Common.{arith}
use Rattle.sf_block_space.proofs.FilledRunLemmas.{filled_by_runs}
use Rattle.sf_block_space.proofs.free_runs.FreeRuns.give_back.Goals as goal

pub give_back_within-requires-clause-room : goal.give_back_within-requires-clause-room
give_back_within-requires-clause-room c = omega (arith, c.len.ensures, c.in_ok-make_room.ensures.room, filled_by_runs c.args.runs.now.held)
