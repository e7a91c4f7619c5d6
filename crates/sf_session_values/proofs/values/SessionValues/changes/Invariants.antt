use Rattle.std.proofs.Common.{◌≡◌, take}
use Rattle.sf_session_values.proofs.values.SessionValues.changes.Given as goal

abbrev pub invariant-loop-k : goal.invariant-loop-k
invariant-loop-k l = l.changes ≡ take l.k l.self.held.working
