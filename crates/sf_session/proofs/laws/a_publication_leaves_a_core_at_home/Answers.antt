use Rattle.sf_session.proofs.NeedLemmas.{publish_need}
use Rattle.sf_session.proofs.PromiseHomeLemmas.{publication_done}
use Rattle.sf_session.proofs.laws.a_publication_leaves_a_core_at_home.Goals as goal

pub returns-clause-home : goal.returns-clause-home
returns-clause-home g options sessions history core c at standing needs = (publication_done options sessions history core c at standing (publish_need core c standing needs)).home

pub returns-clause-reply : goal.returns-clause-reply
returns-clause-reply g options sessions history core c at standing needs = (publication_done options sessions history core c at standing (publish_need core c standing needs)).told
