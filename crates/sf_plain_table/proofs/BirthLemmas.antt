-- Births of values, one list after another.
use Rattle.std.proofs.Common.{◌≡◌, ℕ, List, ◌++◌, map, sym, ap, ◌∙◌}
use Rattle.std.specs.Prelude.{flat_map}
use Rattle.std.proofs.lemmas.List.Concat.{flat_map-append}
use Rattle.sf_types.specs.Inside.NameMaps.{NameMap}
use Rattle.sf_types.specs.Values.Marks.{Value, births_in}
use Rattle.sf_types.specs.Table.Parts.{Rows, Locator, Savepoint}
use Rattle.sf_types.specs.Space.Reach.{values_in}

-- the births of rows, of locators and of savepoints are those of all values of a session
pub births_of_parts : (rows : Rows) (locators : NameMap Locator) (savepoints : List Savepoint)
    → (flat_map births_in (values_in rows) ++ flat_map births_in (map (λ e. e.1.value) locators)) ++ flat_map births_in (flat_map (λ x. values_in x.working) savepoints)
    ≡ flat_map births_in (values_in rows ++ map (λ e. e.1.value) locators ++ flat_map (λ x. values_in x.working) savepoints)
births_of_parts rows locators savepoints =
    let a : List Value = values_in rows in
    let b : List Value = map (λ e. e.1.value) locators in
    let c : List Value = flat_map (λ x. values_in x.working) savepoints in
    ap (λ (xs : List ℕ). xs ++ flat_map births_in c) (sym (flat_map-append births_in a b)) ∙ sym (flat_map-append births_in (a ++ b) c)
