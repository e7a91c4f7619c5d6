use Rattle.sf_session.proofs.CallHomeLemmas.{others_home}
use Rattle.sf_session.proofs.laws.others_leave_a_core_at_home.Goals as goal

pub returns : goal.returns
returns g = record { law = others_home }
