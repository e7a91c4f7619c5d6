use Rattle.sf_types.specs.Space.Reach.{reach}
use Rattle.sf_types.specs.Orders.Histories.{history_table}
use Rattle.sf_laws.specs.Occurrences.{OccursIn}
use Rattle.sf_laws.proofs.EachLemmas.{each_contained}
use Rattle.sf_laws.proofs.FloorLemmas.{floor_in_run}
use Rattle.sf_laws.proofs.NameLemmas.{order_in_run}
use Rattle.sf_laws.proofs.OccurrenceLemmas.{reached_occurs, occurring_is_reached}
use Rattle.sf_laws.proofs.births.births_in_reach_are_those_that_occur.Goals as goal

pub returns-clause-occurs : goal.returns-clause-occurs
returns-clause-occurs c options sessions b history legal within =
    let t = history_table options sessions history in
    let order = order_in_run options sessions history legal in
    each_contained (OccursIn t) (reach t) b (reached_occurs t (floor_in_run options sessions history legal) order.commits order.sessions) within

pub returns-clause-reached : goal.returns-clause-reached
returns-clause-reached c = occurring_is_reached
