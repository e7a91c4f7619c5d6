use Rattle.sf_script_print.proofs.PrintedScriptLemmas.{printed_again}
use Rattle.sf_script_print.proofs.laws.a_printed_script_is_read.Goals as goal

pub returns-clause-same : goal.returns-clause-same
returns-clause-same c bytes script is = (printed_again bytes script is).again

pub returns-clause-no_longer : goal.returns-clause-no_longer
returns-clause-no_longer c bytes script is = (printed_again bytes script is).no_longer
