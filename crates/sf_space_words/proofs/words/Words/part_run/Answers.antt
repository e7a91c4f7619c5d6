use Rattle.std.proofs.Common.{sym, refl, ◌++◌, []}
use Rattle.std.proofs.lemmas.List.{append-nil}
use Rattle.sf_types.specs.Space.BlockRuns.{blocks_in_run}
use Rattle.sf_space_words.proofs.SeatLemmas.{covers_as}
use Rattle.sf_space_words.proofs.words.Words.part_run.Goals as goal

pub part_chosen-requires-clause-blocks : goal.part_chosen-requires-clause-blocks
part_chosen-requires-clause-blocks c = covers_as c.args.seat.now.blocks c.args.seat.now.blocks (blocks_in_run c.args.run) (blocks_in_run c.args.run ++ []) refl (sym (append-nil (blocks_in_run c.args.run))) c.requires.blocks
