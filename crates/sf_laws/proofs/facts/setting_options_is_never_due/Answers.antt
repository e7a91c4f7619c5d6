use Rattle.sf_laws.proofs.FewFreshLemmas.{options_never_due}
use Rattle.sf_laws.proofs.facts.setting_options_is_never_due.Goals as goal

pub returns : goal.returns
returns c = record { law = options_never_due }
