use Rattle.sf_types.specs.Orders.Histories.{history_table}
use Rattle.sf_laws.proofs.HalfLemmas.{batch_by_half, stands_where}
use Rattle.sf_laws.proofs.OwnLemmas.{local_run}
use Rattle.sf_laws.proofs.halves.local_calls_change_kept_births_alone.Goals as goal

pub returns-clause-half : goal.returns-clause-half
returns-clause-half c options sessions s history calls legal has may local =
    batch_by_half (history_table options sessions history) s calls has (stands_where options sessions history legal) may local

pub returns-clause-own : goal.returns-clause-own
returns-clause-own c options sessions s history calls legal has may local =
    (local_run (history_table options sessions history) s calls has (stands_where options sessions history legal).rising may local).own

pub returns-clause-replies : goal.returns-clause-replies
returns-clause-replies c options sessions s history calls legal has may local =
    (local_run (history_table options sessions history) s calls has (stands_where options sessions history legal).rising may local).replies
