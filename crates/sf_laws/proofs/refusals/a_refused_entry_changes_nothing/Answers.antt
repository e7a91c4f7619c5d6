use Rattle.sf_types.proofs.RefusalLemmas.{entry_refused}
use Rattle.sf_laws.proofs.refusals.a_refused_entry_changes_nothing.Goals as goal

pub returns : goal.returns
returns c = record { law = λ t e f has is. entry_refused t e.token.session e.token.kind e.call f has is }
