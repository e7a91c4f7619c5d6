use Rattle.std.proofs.Common.{◌≡◌, ◌++◌, drop}
use Rattle.sf_types.specs.Inside.Births.{with_birth}
use Rattle.sf_plain_table.proofs.births.with_birth.Given as goal

abbrev pub invariant-loop-at : goal.invariant-loop-at
invariant-loop-at l = l.all.items ++ with_birth l.birth (drop l.at l.rising) ≡ with_birth l.birth l.rising
