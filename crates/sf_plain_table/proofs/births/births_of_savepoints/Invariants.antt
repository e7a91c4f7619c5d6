use Rattle.std.proofs.Common.{◌≡◌, ◌++◌, drop}
use Rattle.std.specs.Prelude.{flat_map}
use Rattle.sf_types.specs.Values.Marks.{births_in}
use Rattle.sf_types.specs.Space.Reach.{values_in}
use Rattle.sf_plain_table.proofs.births.births_of_savepoints.Given as goal

abbrev pub invariant-loop-savepoint : goal.invariant-loop-savepoint
invariant-loop-savepoint l =
    l.births.items ++ flat_map births_in (flat_map (λ x. values_in x.working) (drop l.savepoint-index l.savepoints))
    ≡ flat_map births_in (flat_map (λ x. values_in x.working) l.savepoints)
