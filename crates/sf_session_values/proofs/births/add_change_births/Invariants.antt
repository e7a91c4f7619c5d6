use Rattle.std.proofs.Common.{◌≡◌, ◌++◌, drop}
use Rattle.std.specs.Prelude.{flat_map}
use Rattle.sf_session_values.specs.Inside.EntryBirths.{births_of_value}
use Rattle.sf_session_values.proofs.births.add_change_births.Given as goal

abbrev pub invariant-loop-k : goal.invariant-loop-k
invariant-loop-k l = l.into ++ flat_map (λ row. births_of_value row.1) (drop l.k l.changes) ≡ l.initial.into ++ flat_map (λ row. births_of_value row.1) l.changes
