use Rattle.sf_laws.proofs.OwnRunLemmas.{local_law}
use Rattle.sf_laws.proofs.locality.local_calls_are_by_the_own_part.Goals as goal

pub returns : goal.returns
returns c = record { law = local_law }
