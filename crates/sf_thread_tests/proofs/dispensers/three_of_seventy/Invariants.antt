use Rattle.sf_types.specs.Limits.{standard_options}
use Rattle.sf_thread_tests.proofs.dispensers.three_of_seventy.Given as goal

-- the words that were just made
abbrev pub ghosts-three_then_all : goal.ghosts-three_then_all
ghosts-three_then_all g a = record { space = a.words.id; options = record standard_options { capacity = a.words.capacity }; sessions = 1 }
