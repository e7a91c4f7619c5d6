use Rattle.std.proofs.Common.{◌≡◌, ◌++◌}
use Rattle.std.specs.Prelude.{flat_map}
use Rattle.sf_types.specs.Values.Marks.{births_in}
use Rattle.sf_types.specs.Space.Reach.{values_in}
use Rattle.sf_plain_table.proofs.births.births_of_rows.Given as goal

abbrev pub invariant-loop-state : goal.invariant-loop-state
invariant-loop-state l = l.births.items ++ flat_map births_in (values_in l.state-iterator) ≡ flat_map births_in (values_in l.rows)
