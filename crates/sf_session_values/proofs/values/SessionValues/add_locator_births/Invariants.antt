use Rattle.std.proofs.Common.{◌≡◌, ◌++◌, drop}
use Rattle.std.specs.Prelude.{flat_map}
use Rattle.std.specs.Option.{option_copied}
use Rattle.sf_session_values.specs.Inside.EntryBirths.{births_of_locator}
use Rattle.sf_session_values.proofs.values.SessionValues.add_locator_births.Given as goal

abbrev pub invariant-loop-k : goal.invariant-loop-k
invariant-loop-k l =
    let births = births_of_locator (option_copied l.except) in
    l.into ++ flat_map births (drop l.k l.self.held.locators) ≡ l.initial.into ++ flat_map births l.self.held.locators
