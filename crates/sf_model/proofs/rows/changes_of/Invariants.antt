use Rattle.std.proofs.Common.{◌≡◌, ◌++◌}
use Rattle.sf_model.proofs.rows.changes_of.Given as goal

abbrev pub invariant-loop-name : goal.invariant-loop-name
invariant-loop-name l = l.changes.items ++ l.name-iterator ≡ l.rows
