use Rattle.sf_types.specs.Space.BlockRuns.{blocks_in}
use Rattle.sf_space_words.proofs.words.Words.part.Given as goal

-- the blocks that are cut off
abbrev pub ghosts-part_chosen : goal.ghosts-part_chosen
ghosts-part_chosen a = record { blocks = blocks_in a.runs.now }
