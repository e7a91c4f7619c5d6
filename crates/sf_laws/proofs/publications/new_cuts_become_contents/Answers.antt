use Rattle.std.proofs.Common.{◌∙◌}
use Rattle.sf_types.specs.Space.Reach.{reach}
use Rattle.sf_types.specs.Space.Promises.{flush_cuts}
use Rattle.sf_types.specs.Orders.Histories.{history_table}
use Rattle.sf_laws.proofs.ChangeLemmas.{publish_changed}
use Rattle.sf_laws.proofs.CutBirthLemmas.{contents_are}
use Rattle.sf_laws.proofs.HalfLemmas.{stands_where}
use Rattle.sf_laws.proofs.TrueStepLemmas.{are_true, reach_given}
use Rattle.sf_laws.proofs.publications.new_cuts_become_contents.Goals as goal

pub returns : goal.returns
returns c = record {
  law = λ options sessions s history call legal.
      let t = history_table options sessions history in
      (publish_changed t s call).contents ∙ contents_are t.contents (reach t) (flush_cuts t s call) (reach_given t (are_true t (stands_where options sessions history legal).within.true_marks));
}
