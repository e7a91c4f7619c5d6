use Rattle.std.proofs.Common.{sym}
use Rattle.sf_types.specs.Orders.Histories.{history_table}
use Rattle.sf_laws.proofs.HalfLemmas.{stands_where}
use Rattle.sf_laws.proofs.OwnLemmas.{due_by_own}
use Rattle.sf_laws.proofs.PublicationLemmas.{flush_by_own}
use Rattle.sf_laws.proofs.halves.what_is_flushed_is_told_by_the_own_part.Goals as goal

pub returns-clause-due : goal.returns-clause-due
returns-clause-due c options sessions s history call legal = due_by_own (history_table options sessions history) s call (stands_where options sessions history legal).rising

pub returns-clause-flush : goal.returns-clause-flush
returns-clause-flush c options sessions s history call legal due = sym (flush_by_own (history_table options sessions history) s call (stands_where options sessions history legal).rising due)
