use Rattle.std.proofs.lemmas.List.Elements.{All-from_recursion}
use Rattle.sf_types.specs.Orders.Histories.{history_table}
use Rattle.sf_types.specs.Table.Sessions.{session_of}
use Rattle.sf_types.proofs.NameMapLemmas.{IsRisingMap}
use Rattle.sf_laws.specs.Facts.{HasRisingNames}
use Rattle.sf_laws.proofs.EachLemmas.{each_weaker}
use Rattle.sf_laws.proofs.NameLemmas.{order_in_run, names_of_rising}
use Rattle.sf_laws.proofs.facts.names_rise.Goals as goal

pub returns-clause-locks : goal.returns-clause-locks
returns-clause-locks c options sessions history legal = names_of_rising _ (order_in_run options sessions history legal).stands.rising

pub returns-clause-commits : goal.returns-clause-commits
returns-clause-commits c options sessions history legal =
    let t = history_table options sessions history in
    All-from_recursion (λ c. HasRisingNames c) t.commits (each_weaker (λ c. IsRisingMap c) (λ c. HasRisingNames c) t.commits (λ c is. names_of_rising c is) (order_in_run options sessions history legal).commits)

pub returns-clause-working : goal.returns-clause-working
returns-clause-working c options sessions s history legal has = names_of_rising _ ((order_in_run options sessions history legal).sessions s has).working

pub returns-clause-locators : goal.returns-clause-locators
returns-clause-locators c options sessions s history legal has = names_of_rising _ ((order_in_run options sessions history legal).sessions s has).locators

pub returns-clause-saved : goal.returns-clause-saved
returns-clause-saved c options sessions s history legal has =
    let xs = (session_of (history_table options sessions history) s).savepoints in
    All-from_recursion (λ x. HasRisingNames x.working) xs (each_weaker (λ x. IsRisingMap x.working) (λ x. HasRisingNames x.working) xs (λ x is. names_of_rising x.working is) ((order_in_run options sessions history legal).sessions s has).saved)
