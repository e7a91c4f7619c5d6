use Rattle.std.proofs.Common.{◌≡◌, drop}
use Rattle.std.specs.List.{list_any}
use Rattle.sf_types.specs.Space.Due.{has_fresh}
use Rattle.sf_session_values.proofs.values.SessionValues.has_fresh.Given as goal

abbrev pub invariant-loop-k : goal.invariant-loop-k
invariant-loop-k l = list_any (λ row. has_fresh row.1) (drop l.k l.self.held.working) ≡ list_any (λ row. has_fresh row.1) l.self.held.working
