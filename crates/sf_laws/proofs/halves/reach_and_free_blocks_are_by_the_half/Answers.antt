use Rattle.sf_laws.proofs.FlushLemmas.{reach_by_half, free_by_half}
use Rattle.sf_laws.proofs.halves.reach_and_free_blocks_are_by_the_half.Goals as goal

pub returns : goal.returns
returns c = record { reach = reach_by_half; free = free_by_half }
