use Rattle.sf_laws.proofs.NewCutLemmas.{new_cuts_are}
use Rattle.sf_laws.proofs.publications.new_cuts_have_no_equal_before_them.Goals as goal

pub returns : goal.returns
returns c = record { law = new_cuts_are }
