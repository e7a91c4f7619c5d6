use Rattle.sf_store_half.proofs.SettledChangeLemmas.{IsSettledTo}
use Rattle.sf_store_half.proofs.settled_changes.settle_changes.Given as goal

abbrev pub invariant-loop-change : goal.invariant-loop-change
invariant-loop-change l = IsSettledTo l.fn.changes l.chunks l.settled l.change-iterator.rest.items l.from
