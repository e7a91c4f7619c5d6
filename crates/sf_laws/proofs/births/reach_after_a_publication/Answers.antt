use Rattle.sf_types.specs.Orders.Histories.{history_table}
use Rattle.sf_laws.proofs.HalfLemmas.{stands_where}
use Rattle.sf_laws.proofs.PublishedReachLemmas.{reach_after_publication}
use Rattle.sf_laws.proofs.births.reach_after_a_publication.Goals as goal

pub returns : goal.returns
returns c = record {
  law = λ options sessions s history call legal has.
      reach_after_publication (history_table options sessions history) s call has (stands_where options sessions history legal).within.true_marks;
}
