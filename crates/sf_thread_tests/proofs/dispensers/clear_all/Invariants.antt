use Rattle.sf_types.specs.Limits.{standard_options}
use Rattle.sf_thread_tests.proofs.dispensers.clear_all.Given as goal

-- the words that were just made
abbrev pub ghosts-collect_and_clear : goal.ghosts-collect_and_clear
ghosts-collect_and_clear g a = record { space = a.words.id; options = record standard_options { capacity = a.words.capacity }; sessions = 1 }
