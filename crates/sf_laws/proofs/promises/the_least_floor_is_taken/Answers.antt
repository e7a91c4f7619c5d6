use Rattle.sf_laws.proofs.LeastFloorLemmas.{least-is, none-is, end-is}
use Rattle.sf_laws.proofs.promises.the_least_floor_is_taken.Goals as goal

pub returns-clause-fits : goal.returns-clause-fits
returns-clause-fits c t of h is = (least-is t.options.max t of h is).passes

pub returns-clause-least : goal.returns-clause-least
returns-clause-least c t of h k is low high = (least-is t.options.max t of h is).least k low high

pub returns-clause-none : goal.returns-clause-none
returns-clause-none c t of k is low high = none-is t.options.max t of k is low high

pub returns-clause-last : goal.returns-clause-last
returns-clause-last c t le = end-is t.options.max t le
