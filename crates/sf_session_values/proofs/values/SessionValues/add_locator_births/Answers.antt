use Rattle.std.proofs.Common.{◌≤◌, ◌++◌, ◌∙◌, length, ap, sym, subst, arith}
use Rattle.std.specs.Map.{keys_of}
use Rattle.std.specs.List.Sorted.{IsStrictlySortedBy}
use Rattle.std.specs.Option.{option_copied}
use Rattle.sf_types.specs.Values.Names.{name_cmp}
use Rattle.sf_types.specs.Inside.NameMaps.{NameMap}
use Rattle.sf_types.specs.Table.Parts.{Locator}
use Rattle.sf_session_values.specs.Inside.EntryBirths.{births_of_locator}
use Rattle.sf_session_values.proofs.EntryBirthLemmas.{births_added, all_births_added, locators_beside-births}
use Rattle.sf_session_values.proofs.values.SessionValues.add_locator_births.Goals as goal

pub loop-k-preserved : goal.loop-k-preserved
loop-k-preserved c = births_added (births_of_locator (option_copied c.args.except)) c.args.self.now.held.locators c.loop-k.k _ _ _ c.loop-k.invariant c.in_ok-add_locator.ensures

pub returns : goal.returns
returns c =
    let locators = c.args.self.now.held.locators in
    let rising : IsStrictlySortedBy name_cmp (keys_of locators) = subst (λ (m : NameMap Locator). IsStrictlySortedBy name_cmp (keys_of m)) c.locators.ensures c.len-k-end.ensures.rising in
    let most : length locators ≤ c.loop-k.k = omega (arith, c.len-k-end.ensures.len, ap (length {A = _}) c.locators.ensures, c.loop-k-test.false) in
    all_births_added (births_of_locator (option_copied c.args.except)) locators c.loop-k.k _ _ c.loop-k.invariant most
    ∙ ap (λ bs. c.args.into.now ++ bs) (sym (locators_beside-births (option_copied c.args.except) locators rising))
