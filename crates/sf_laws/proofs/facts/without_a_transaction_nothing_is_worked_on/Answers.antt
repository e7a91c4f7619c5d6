use Rattle.std.proofs.Common.{◌≡◌, []}
use Rattle.std.proofs.lemmas.List.Elements.{All-from_recursion}
use Rattle.sf_types.specs.Orders.Histories.{history_table}
use Rattle.sf_types.specs.Table.Sessions.{session_of}
use Rattle.sf_laws.proofs.NameLemmas.{order_in_run}
use Rattle.sf_laws.proofs.facts.without_a_transaction_nothing_is_worked_on.Goals as goal

pub returns-clause-working : goal.returns-clause-working
returns-clause-working c options sessions s history legal has is = ((order_in_run options sessions history legal).sessions s has).closed is

pub returns-clause-saved : goal.returns-clause-saved
returns-clause-saved c options sessions s history legal has is =
    All-from_recursion (λ x. x.working ≡ []) (session_of (history_table options sessions history) s).savepoints (((order_in_run options sessions history legal).sessions s has).closed_saved is)

pub returns-clause-locks : goal.returns-clause-locks
returns-clause-locks c options sessions s history legal has is = ((order_in_run options sessions history legal).sessions s has).unlocked is
