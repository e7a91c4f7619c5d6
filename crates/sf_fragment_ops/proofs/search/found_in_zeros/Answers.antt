use Rattle.sf_fragment_ops.proofs.SearchLemmas.{zeros_nowhere}
use Rattle.sf_fragment_ops.proofs.search.found_in_zeros.Goals as goal

pub returns-else-are_zeros : goal.returns-else-are_zeros
returns-else-are_zeros c = zeros_nowhere c.args.pattern.now c.args.zeros c.if-are_zeros.ensures
