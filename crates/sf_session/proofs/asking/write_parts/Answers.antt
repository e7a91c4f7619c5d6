use Rattle.sf_session.proofs.StandingLemmas.{result_request}
use Rattle.sf_session.proofs.asking.write_parts.Goals as goal

pub returns-clause-part : goal.returns-clause-part
returns-clause-part c = result_request c.args.own.now.held c.args.call.now c.args.written.now c.in_ok-map.map c.requires c.in_ok-map.ensures
