use Rattle.sf_types.specs.Orders.Histories.{history_table}
use Rattle.sf_types.specs.Table.Sessions.{session_of}
use Rattle.sf_laws.proofs.FewFreshLemmas.{few_in_run, have_few, have_few_saved}
use Rattle.sf_laws.proofs.facts.what_is_worked_on_has_few_fresh_bytes.Goals as goal

pub returns-clause-working : goal.returns-clause-working
returns-clause-working c options sessions s history some legal = have_few options.gather (session_of (history_table options sessions history) s).working (few_in_run options sessions s history some legal).working

pub returns-clause-saved : goal.returns-clause-saved
returns-clause-saved c options sessions s history some legal = have_few_saved options.gather (session_of (history_table options sessions history) s).savepoints (few_in_run options sessions s history some legal).saved
