use Rattle.sf_types.specs.Limits.{standard_options}
use Rattle.sf_thread_tests.proofs.dispensers.parked_of_eight.Given as goal

-- the words that were just made
abbrev pub ghosts-collect_parked : goal.ghosts-collect_parked
ghosts-collect_parked g a = record { space = a.words.id; options = record standard_options { capacity = a.words.capacity }; sessions = 1 }
