use Rattle.sf_session.proofs.EventLemmas.{event_done}
use Rattle.sf_session.proofs.laws.an_event_leaves_a_core_at_home.Goals as goal

pub returns-clause-home : goal.returns-clause-home
returns-clause-home g options sessions history core c at standing needs = (event_done options sessions history core c at standing needs).home

pub returns-clause-reply : goal.returns-clause-reply
returns-clause-reply g options sessions history core c at standing needs = (event_done options sessions history core c at standing needs).told
