use Rattle.sf_session.proofs.PromiseHomeLemmas.{refused_done}
use Rattle.sf_session.proofs.laws.a_refused_promise_leaves_a_core_at_home.Goals as goal

pub returns-clause-home : goal.returns-clause-home
returns-clause-home g options sessions wanted free history core c at standing needs is = (refused_done options sessions wanted free history core c at standing needs is).home

pub returns-clause-reply : goal.returns-clause-reply
returns-clause-reply g options sessions wanted free history core c at standing needs is = (refused_done options sessions wanted free history core c at standing needs is).reply
