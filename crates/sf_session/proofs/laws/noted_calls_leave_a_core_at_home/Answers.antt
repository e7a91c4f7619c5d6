use Rattle.sf_session.proofs.CallHomeLemmas.{noted_home}
use Rattle.sf_session.proofs.laws.noted_calls_leave_a_core_at_home.Goals as goal

pub returns : goal.returns
returns g = record { law = noted_home }
