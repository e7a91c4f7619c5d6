use Rattle.std.proofs.Common.{◌≡◌, ◌++◌, map}
use Rattle.std.specs.Prelude.{flat_map}
use Rattle.sf_types.specs.Values.Marks.{births_in}
use Rattle.sf_plain_table.proofs.births.births_of_locators.Given as goal

abbrev pub invariant-loop-locator : goal.invariant-loop-locator
invariant-loop-locator l = l.births.items ++ flat_map births_in (map (λ e. e.1.value) l.locator-iterator) ≡ flat_map births_in (map (λ e. e.1.value) l.locators)
