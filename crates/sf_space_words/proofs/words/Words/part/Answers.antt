use Rattle.std.proofs.Common.{ap, sym, refl}
use Rattle.sf_types.specs.Space.BlockRuns.{blocks_in}
use Rattle.sf_space_words.proofs.SeatLemmas.{covers_as}
use Rattle.sf_space_words.proofs.words.Words.part.Goals as goal

pub part_chosen-requires-clause-blocks : goal.part_chosen-requires-clause-blocks
part_chosen-requires-clause-blocks c = covers_as c.args.seat.now.blocks c.args.seat.now.blocks (blocks_in c.args.runs.now.held) (blocks_in c.as_slice.result.now) refl (ap blocks_in (sym c.as_slice.ensures)) c.requires.blocks
