use Rattle.sf_laws.proofs.FlushLemmas.{cancel_by_half, cancel_own}
use Rattle.sf_laws.proofs.halves.a_cancel_is_by_the_half.Goals as goal

pub returns : goal.returns
returns c = record { half = cancel_by_half; own = cancel_own }
