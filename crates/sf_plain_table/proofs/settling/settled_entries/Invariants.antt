use Rattle.std.proofs.Common.{◌≡◌, ◌++◌}
use Rattle.sf_types.specs.Space.Cuts.{settle}
use Rattle.sf_plain_table.proofs.settling.settled_entries.Given as goal

abbrev pub invariant-loop-name : goal.invariant-loop-name
invariant-loop-name l = l.entries.items ++ settle l.name-iterator l.rest ≡ settle l.rows l.births
