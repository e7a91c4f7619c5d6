use Rattle.sf_types.specs.Table.Parts.{opening_table}
use Rattle.sf_laws.proofs.DistinctStepLemmas.{distinct_opening, distinct_entry, distinct_run}
use Rattle.sf_laws.proofs.shared_contents.shared_contents_are_distinct.Goals as goal

pub returns-clause-opening : goal.returns-clause-opening
returns-clause-opening c = distinct_opening

pub returns-clause-entry : goal.returns-clause-entry
returns-clause-entry c = distinct_entry

pub returns-clause-run : goal.returns-clause-run
returns-clause-run c = λ options sessions history legal. distinct_run (opening_table options sessions) history legal (distinct_opening options sessions)
