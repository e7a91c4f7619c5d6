use Rattle.sf_laws.proofs.CommitLemmas.{entry-stored}
use Rattle.sf_laws.proofs.committed.committed_values_are_stored.Goals as goal

pub returns-clause-kept : goal.returns-clause-kept
returns-clause-kept c t e legal all = entry-stored t e.token.session e.token.kind e.call legal all
