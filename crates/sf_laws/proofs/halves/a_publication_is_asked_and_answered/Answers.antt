use Rattle.std.proofs.Common.{Option, subst}
use Rattle.std.specs.Prelude.{IfSome}
use Rattle.sf_types.specs.Table.Parts.{Promise}
use Rattle.sf_types.specs.Orders.Histories.{history_table}
use Rattle.sf_laws.specs.UseWithinCapacity.{IsEnough}
use Rattle.sf_laws.proofs.HalfLemmas.{asks_after, stands_where}
use Rattle.sf_laws.proofs.PublicationLemmas.{publication_by_half}
use Rattle.sf_laws.proofs.halves.a_publication_is_asked_and_answered.Goals as goal

pub returns : goal.returns
returns c = record {
  law = λ options sessions s history q legal has promised.
      let t = history_table options sessions history in
      let enough : IsEnough t s q = subst (λ (o : Option Promise). IfSome o (IsEnough t s)) promised ((stands_where options sessions history legal).within.promises s has) in
      publication_by_half t s q.call (asks_after options sessions s history legal has) enough.due;
}
