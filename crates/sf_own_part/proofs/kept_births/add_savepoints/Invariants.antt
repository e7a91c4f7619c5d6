use Rattle.std.proofs.Common.{◌≡◌, ◌++◌, drop}
use Rattle.sf_own_part.specs.Inside.PartBirths.{births_kept_by}
use Rattle.sf_own_part.proofs.kept_births.add_savepoints.Given as goal

abbrev pub invariant-loop-k : goal.invariant-loop-k
invariant-loop-k l = l.into ++ births_kept_by (drop l.k l.savepoints) ≡ l.initial.into ++ births_kept_by l.savepoints
