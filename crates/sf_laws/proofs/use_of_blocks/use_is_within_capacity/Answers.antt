use Rattle.sf_laws.proofs.UseStepLemmas.{within_opening, within_entry, use_in_run}
use Rattle.sf_laws.proofs.use_of_blocks.use_is_within_capacity.Goals as goal

pub returns-clause-opening : goal.returns-clause-opening
returns-clause-opening c = within_opening

pub returns-clause-entry : goal.returns-clause-entry
returns-clause-entry c = within_entry

pub returns-clause-run : goal.returns-clause-run
returns-clause-run c = use_in_run
