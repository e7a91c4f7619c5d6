use Rattle.sf_types.specs.Limits.{standard_options}
use Rattle.sf_thread_tests.proofs.dispensers.two_threads.Given as goal

-- the words that were just made
abbrev pub ghosts-by_two_threads : goal.ghosts-by_two_threads
ghosts-by_two_threads g a = record { space = a.words.id; options = record standard_options { capacity = a.words.capacity }; sessions = 1 }
