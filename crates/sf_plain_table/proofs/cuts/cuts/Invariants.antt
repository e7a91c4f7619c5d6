use Rattle.std.proofs.Common.{◌≡◌, ◌++◌}
use Rattle.sf_types.specs.Space.Cuts.{cuts}
use Rattle.sf_plain_table.proofs.cuts.cuts.Given as goal

abbrev pub invariant-loop-state : goal.invariant-loop-state
invariant-loop-state l = l.made.items ++ cuts l.options l.state-iterator ≡ cuts l.options l.rows
