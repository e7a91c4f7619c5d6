use Rattle.sf_types.specs.Space.Reach.{reach}
use Rattle.sf_types.specs.Orders.Histories.{history_table}
use Rattle.sf_laws.proofs.CommitLemmas.{births-length}
use Rattle.sf_laws.proofs.CutBirthLemmas.{birth_of_found, birth_of_equal, birth_of_new}
use Rattle.sf_laws.proofs.HalfLemmas.{stands_where}
use Rattle.sf_laws.proofs.TrueStepLemmas.{are_true, reach_given}
use Rattle.sf_laws.proofs.publications.each_cut_gets_its_birth.Goals as goal

pub returns-clause-found : goal.returns-clause-found
returns-clause-found c options sessions at b history of cut legal stands is =
    let t = history_table options sessions history in
    birth_of_found t.contents (reach t) of at cut b (reach_given t (are_true t (stands_where options sessions history legal).within.true_marks)) stands is

pub returns-clause-equal : goal.returns-clause-equal
returns-clause-equal c options sessions before at history of earlier cut legal less first second same =
    let t = history_table options sessions history in
    birth_of_equal t.contents (reach t) of before at earlier cut (reach_given t (are_true t (stands_where options sessions history legal).within.true_marks)) less first second same

pub returns-clause-next : goal.returns-clause-next
returns-clause-next c options sessions at history of cut legal stands is =
    let t = history_table options sessions history in
    birth_of_new t.contents (reach t) of at cut (reach_given t (are_true t (stands_where options sessions history legal).within.true_marks)) stands is

pub returns-clause-count : goal.returns-clause-count
returns-clause-count c options sessions history of = let t = history_table options sessions history in births-length t.contents (reach t) of
