use Rattle.sf_store_half.proofs.KeepsLemmas.{opening_keeps}
use Rattle.sf_store_half.proofs.laws.opening_fields_keep_the_opening_half.Goals as goal

pub returns : goal.returns
returns c = opening_keeps
