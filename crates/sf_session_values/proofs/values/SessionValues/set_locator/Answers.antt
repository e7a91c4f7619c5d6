use Rattle.std.proofs.Common.{◌≡◌, true, false, Some, sym, ap, subst, ◌∙◌}
use Rattle.sf_types.specs.Inside.NameMaps.{get, with_entry}
use Rattle.sf_session_values.specs.declared.working.Working.TheVariants as working
use Rattle.sf_session_values.specs.Inside.Sharing.{rows_by, is_row_value, AreShared}
use Rattle.sf_session_values.proofs.SharingLemmas.{same_view, alike_with, not_row_value, taken-rows, taken-shared, left-rows, left-shared}
use Rattle.sf_session_values.proofs.values.SessionValues.set_locator.Goals as goal

pub invariant_of-self : goal.invariant_of-self
invariant_of-self c =
    let ls = c.self.inside.locators.held in
    let rows = c.self.inside.rows.held in
    let ms = c.set_within.new.self.held in
    let alike = alike_with ls ms c.args.to c.args.locator c.set_within.ensures.held in
    let there : get ls c.args.to ≡ Some c.in-Some.old = sym c.set_within.ensures.old ∙ c.in-Some.is in
    let is_row : is_row_value ls rows c.args.to ≡ true = sym c.is_row_value-keeps_row.ensures ∙ c.if-keeps_row.true in
    let made : c.replace.new.self.held ≡ with_entry rows c.in-Some.old.row (working.Own c.in-Some.old.value) =
    c.replace.ensures.held ∙ ap (λ v. with_entry rows v.row (working.Own v.value)) c.old.view_is in
    subst (AreShared ms) (sym made) (taken-shared ls ms rows c.args.to c.in-Some.old c.self.invariant there is_row alike)

pub invariant_of-self-else-keeps_row : goal.invariant_of-self-else-keeps_row
invariant_of-self-else-keeps_row c =
    let ls = c.self.inside.locators.held in
    let rows = c.self.inside.rows.held in
    let ms = c.set_within.new.self.held in
    let alike = alike_with ls ms c.args.to c.args.locator c.set_within.ensures.held in
    let not_row : is_row_value ls rows c.args.to ≡ false = sym c.is_row_value-keeps_row.ensures ∙ c.if-keeps_row.false in
    left-shared ls ms rows c.args.to c.self.invariant not_row alike

pub invariant_of-self-in-None : goal.invariant_of-self-in-None
invariant_of-self-in-None c =
    let ls = c.self.inside.locators.held in
    let rows = c.self.inside.rows.held in
    let ms = c.set_within.new.self.held in
    let alike = alike_with ls ms c.args.to c.args.locator c.set_within.ensures.held in
    let not_row : is_row_value ls rows c.args.to ≡ false = not_row_value ls rows c.args.to (sym c.set_within.ensures.old ∙ c.in-None.is) in
    left-shared ls ms rows c.args.to c.self.invariant not_row alike

pub returns-then-keeps_row : goal.returns-then-keeps_row
returns-then-keeps_row c =
    let ls = c.self.inside.locators.held in
    let rows = c.self.inside.rows.held in
    let ms = c.set_within.new.self.held in
    let alike = alike_with ls ms c.args.to c.args.locator c.set_within.ensures.held in
    let there : get ls c.args.to ≡ Some c.in-Some.old = sym c.set_within.ensures.old ∙ c.in-Some.is in
    let is_row : is_row_value ls rows c.args.to ≡ true = sym c.is_row_value-keeps_row.ensures ∙ c.if-keeps_row.true in
    let made : c.replace.new.self.held ≡ with_entry rows c.in-Some.old.row (working.Own c.in-Some.old.value) =
    c.replace.ensures.held ∙ ap (λ v. with_entry rows v.row (working.Own v.value)) c.old.view_is in
    same_view _ _ _ _
    (ap (rows_by ms) made ∙ taken-rows ls ms rows c.args.to c.in-Some.old c.self.invariant c.len.ensures.rising there is_row alike ∙ ap (λ v. v.held.working) c.self.view_is)
    (c.set_within.ensures.held ∙ ap (λ v. with_entry v.held.locators c.args.to c.args.locator) c.self.view_is)

pub returns-else-keeps_row : goal.returns-else-keeps_row
returns-else-keeps_row c =
    let ls = c.self.inside.locators.held in
    let rows = c.self.inside.rows.held in
    let ms = c.set_within.new.self.held in
    let alike = alike_with ls ms c.args.to c.args.locator c.set_within.ensures.held in
    let not_row : is_row_value ls rows c.args.to ≡ false = sym c.is_row_value-keeps_row.ensures ∙ c.if-keeps_row.false in
    same_view _ _ _ _
    (left-rows ls ms rows c.args.to c.self.invariant c.len.ensures.rising not_row alike ∙ ap (λ v. v.held.working) c.self.view_is)
    (c.set_within.ensures.held ∙ ap (λ v. with_entry v.held.locators c.args.to c.args.locator) c.self.view_is)

pub returns-in-None : goal.returns-in-None
returns-in-None c =
    let ls = c.self.inside.locators.held in
    let rows = c.self.inside.rows.held in
    let ms = c.set_within.new.self.held in
    let alike = alike_with ls ms c.args.to c.args.locator c.set_within.ensures.held in
    let not_row : is_row_value ls rows c.args.to ≡ false = not_row_value ls rows c.args.to (sym c.set_within.ensures.old ∙ c.in-None.is) in
    same_view _ _ _ _
    (left-rows ls ms rows c.args.to c.self.invariant c.len.ensures.rising not_row alike ∙ ap (λ v. v.held.working) c.self.view_is)
    (c.set_within.ensures.held ∙ ap (λ v. with_entry v.held.locators c.args.to c.args.locator) c.self.view_is)
