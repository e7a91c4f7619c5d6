use Rattle.std.proofs.Common.{◌≡◌}
use Rattle.std.specs.List.{list_any}
use Rattle.sf_types.specs.Space.Due.{has_fresh}
use Rattle.sf_plain_table.proofs.due.any_fresh.Given as goal

abbrev pub invariant-loop-state : goal.invariant-loop-state
invariant-loop-state l = list_any (λ e. has_fresh e.1) l.state-iterator ≡ list_any (λ e. has_fresh e.1) l.rows
