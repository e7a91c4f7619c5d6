use Rattle.sf_session.proofs.CallHomeLemmas.{started_home}
use Rattle.sf_session.proofs.laws.a_started_call_leaves_a_core_at_home.Goals as goal

pub returns : goal.returns
returns g = record { law = started_home }
