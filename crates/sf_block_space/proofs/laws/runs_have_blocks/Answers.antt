use Rattle.sf_block_space.proofs.FilledRunLemmas.{filled_by_blocks, filled_by_runs}
use Rattle.sf_block_space.proofs.laws.runs_have_blocks.Goals as goal

pub returns : goal.returns
returns c = record { blocks = filled_by_blocks; runs = filled_by_runs }
