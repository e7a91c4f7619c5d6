use Rattle.sf_plain_store.proofs.PlaySessionLemmas.{IsWithin, steps_left}
use Rattle.sf_plain_store.proofs.players.Player.turn.Given as goal

abbrev pub invariant-loop-self : goal.invariant-loop-self
invariant-loop-self l = IsWithin l.calls l.initial.store l.store l.initial.self l.self

abbrev pub decreases-loop-self : goal.decreases-loop-self
decreases-loop-self l = steps_left l.calls l.self
