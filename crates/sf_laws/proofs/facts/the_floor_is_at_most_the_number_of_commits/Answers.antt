use Rattle.sf_laws.proofs.FloorLemmas.{floor_in_run}
use Rattle.sf_laws.proofs.facts.the_floor_is_at_most_the_number_of_commits.Goals as goal

pub returns : goal.returns
returns c = record { law = floor_in_run }
