use Rattle.sf_stock.proofs.SinceLemmas.{since_itself, since_new, since_held, since_parked}
use Rattle.sf_stock.proofs.laws.calls_between_two_parkings_add_up.Goals as goal

pub returns-clause-nothing : goal.returns-clause-nothing
returns-clause-nothing c = since_itself

pub returns-clause-placed : goal.returns-clause-placed
returns-clause-placed c = since_new

pub returns-clause-held : goal.returns-clause-held
returns-clause-held c = since_held

pub returns-clause-parked : goal.returns-clause-parked
returns-clause-parked c = since_parked
