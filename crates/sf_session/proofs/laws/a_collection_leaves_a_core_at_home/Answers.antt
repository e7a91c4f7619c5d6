use Rattle.sf_session.proofs.CallHomeLemmas.{collected_home}
use Rattle.sf_session.proofs.laws.a_collection_leaves_a_core_at_home.Goals as goal

pub returns : goal.returns
returns g = record { law = collected_home }
