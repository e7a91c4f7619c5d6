use Rattle.sf_types.specs.Table.Parts.{opening_table}
use Rattle.sf_laws.proofs.TrueStepLemmas.{true_opening, true_after, true_run}
use Rattle.sf_laws.proofs.true_marks.marks_are_true.Goals as goal

pub returns-clause-opening : goal.returns-clause-opening
returns-clause-opening c = true_opening

pub returns-clause-entry : goal.returns-clause-entry
returns-clause-entry c = true_after

pub returns-clause-run : goal.returns-clause-run
returns-clause-run c = λ options sessions history legal. true_run (opening_table options sessions) history legal (true_opening options sessions)
