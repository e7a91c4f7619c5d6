use Rattle.sf_session.proofs.CallHomeLemmas.{new_home}
use Rattle.sf_session.proofs.laws.a_new_core_is_at_home.Goals as goal

pub returns : goal.returns
returns g = record { law = new_home }
