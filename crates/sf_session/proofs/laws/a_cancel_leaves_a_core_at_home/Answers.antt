use Rattle.sf_session.proofs.NeedLemmas.{publish_need, collect_promised}
use Rattle.sf_session.proofs.PromiseHomeLemmas.{cancel_done}
use Rattle.sf_session.proofs.laws.a_cancel_leaves_a_core_at_home.Goals as goal

pub returns-clause-publishing : goal.returns-clause-publishing
returns-clause-publishing g options sessions history core c at standing needs = cancel_done options sessions history core c at standing (publish_need core c standing needs)

pub returns-clause-collecting : goal.returns-clause-collecting
returns-clause-collecting g options sessions blocks history core c at standing needs = cancel_done options sessions history core c at standing (collect_promised core blocks needs)
