use Rattle.sf_laws.proofs.HalfLemmas.{event_law}
use Rattle.sf_laws.proofs.halves.an_event_is_asked_and_answered.Goals as goal

pub returns : goal.returns
returns c = record { law = event_law }
