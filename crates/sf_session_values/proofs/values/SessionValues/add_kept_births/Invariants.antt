use Rattle.std.proofs.Common.{◌≡◌, ◌++◌, drop}
use Rattle.std.specs.Prelude.{flat_map}
use Rattle.sf_session_values.specs.Inside.EntryBirths.{births_kept}
use Rattle.sf_session_values.proofs.values.SessionValues.add_kept_births.Given as goal

abbrev pub invariant-loop-k : goal.invariant-loop-k
invariant-loop-k l = l.into ++ flat_map (births_kept l.since) (drop l.k l.self.held.locators) ≡ l.initial.into ++ flat_map (births_kept l.since) l.self.held.locators
