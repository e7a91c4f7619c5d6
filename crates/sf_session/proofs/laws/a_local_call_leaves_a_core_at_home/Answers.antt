use Rattle.sf_session.proofs.CallHomeLemmas.{local_done}
use Rattle.sf_session.proofs.laws.a_local_call_leaves_a_core_at_home.Goals as goal

pub returns-clause-home : goal.returns-clause-home
returns-clause-home g options sessions history core c at standing needs = (local_done options sessions history core c at standing needs).home

pub returns-clause-legal : goal.returns-clause-legal
returns-clause-legal g options sessions history core c at standing needs = (local_done options sessions history core c at standing needs).legal

pub returns-clause-reply : goal.returns-clause-reply
returns-clause-reply g options sessions history core c at standing needs = (local_done options sessions history core c at standing needs).reply
