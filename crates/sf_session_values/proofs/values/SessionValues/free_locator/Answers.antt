use Rattle.std.proofs.Common.{◌≡◌, true, false, Some, sym, ap, subst, ◌∙◌}
use Rattle.sf_types.specs.Inside.NameMaps.{get, with_entry, without_entry}
use Rattle.sf_session_values.specs.declared.working.Working.TheVariants as working
use Rattle.sf_session_values.specs.Inside.Sharing.{rows_by, is_row_value, AreShared}
use Rattle.sf_session_values.proofs.SharingLemmas.{same_view, alike_without, not_row_value, taken-rows, taken-shared, left-rows, left-shared}
use Rattle.sf_session_values.proofs.values.SessionValues.free_locator.Goals as goal

pub invariant_of-self : goal.invariant_of-self
invariant_of-self c =
    let ls = c.self.inside.locators.held in
    let rows = c.self.inside.rows.held in
    let ms = c.take.new.self.held in
    let alike = alike_without ls ms c.args.at.now c.len-2.ensures.rising c.take.ensures.held in
    let there : get ls c.args.at.now ≡ Some c.in-Some.old = sym c.take.ensures.taken ∙ c.in-Some.is in
    let is_row : is_row_value ls rows c.args.at.now ≡ true = sym c.is_row_value-keeps_row.ensures ∙ c.if-keeps_row.true in
    let made : c.replace.new.self.held ≡ with_entry rows c.in-Some.old.row (working.Own c.in-Some.old.value) =
    c.replace.ensures.held ∙ ap (λ v. with_entry rows v.row (working.Own v.value)) c.old.view_is in
    subst (AreShared ms) (sym made) (taken-shared ls ms rows c.args.at.now c.in-Some.old c.self.invariant there is_row alike)

pub invariant_of-self-else-keeps_row : goal.invariant_of-self-else-keeps_row
invariant_of-self-else-keeps_row c =
    let ls = c.self.inside.locators.held in
    let rows = c.self.inside.rows.held in
    let ms = c.take.new.self.held in
    let alike = alike_without ls ms c.args.at.now c.len-2.ensures.rising c.take.ensures.held in
    let not_row : is_row_value ls rows c.args.at.now ≡ false = sym c.is_row_value-keeps_row.ensures ∙ c.if-keeps_row.false in
    left-shared ls ms rows c.args.at.now c.self.invariant not_row alike

pub invariant_of-self-in-None : goal.invariant_of-self-in-None
invariant_of-self-in-None c =
    let ls = c.self.inside.locators.held in
    let rows = c.self.inside.rows.held in
    let ms = c.take.new.self.held in
    let alike = alike_without ls ms c.args.at.now c.len-2.ensures.rising c.take.ensures.held in
    let not_row : is_row_value ls rows c.args.at.now ≡ false = not_row_value ls rows c.args.at.now (sym c.take.ensures.taken ∙ c.in-None.is) in
    left-shared ls ms rows c.args.at.now c.self.invariant not_row alike

pub returns-then-keeps_row-clause-held : goal.returns-then-keeps_row-clause-held
returns-then-keeps_row-clause-held c =
    let ls = c.self.inside.locators.held in
    let rows = c.self.inside.rows.held in
    let ms = c.take.new.self.held in
    let alike = alike_without ls ms c.args.at.now c.len-2.ensures.rising c.take.ensures.held in
    let there : get ls c.args.at.now ≡ Some c.in-Some.old = sym c.take.ensures.taken ∙ c.in-Some.is in
    let is_row : is_row_value ls rows c.args.at.now ≡ true = sym c.is_row_value-keeps_row.ensures ∙ c.if-keeps_row.true in
    let made : c.replace.new.self.held ≡ with_entry rows c.in-Some.old.row (working.Own c.in-Some.old.value) =
    c.replace.ensures.held ∙ ap (λ v. with_entry rows v.row (working.Own v.value)) c.old.view_is in
    same_view _ _ _ _
    (ap (rows_by ms) made ∙ taken-rows ls ms rows c.args.at.now c.in-Some.old c.self.invariant c.len.ensures.rising there is_row alike ∙ ap (λ v. v.held.working) c.self.view_is)
    (c.take.ensures.held ∙ ap (λ v. without_entry v.held.locators c.args.at.now) c.self.view_is)

pub returns-else-keeps_row-clause-held : goal.returns-else-keeps_row-clause-held
returns-else-keeps_row-clause-held c =
    let ls = c.self.inside.locators.held in
    let rows = c.self.inside.rows.held in
    let ms = c.take.new.self.held in
    let alike = alike_without ls ms c.args.at.now c.len-2.ensures.rising c.take.ensures.held in
    let not_row : is_row_value ls rows c.args.at.now ≡ false = sym c.is_row_value-keeps_row.ensures ∙ c.if-keeps_row.false in
    same_view _ _ _ _
    (left-rows ls ms rows c.args.at.now c.self.invariant c.len.ensures.rising not_row alike ∙ ap (λ v. v.held.working) c.self.view_is)
    (c.take.ensures.held ∙ ap (λ v. without_entry v.held.locators c.args.at.now) c.self.view_is)

pub returns-in-None-clause-held : goal.returns-in-None-clause-held
returns-in-None-clause-held c =
    let ls = c.self.inside.locators.held in
    let rows = c.self.inside.rows.held in
    let ms = c.take.new.self.held in
    let alike = alike_without ls ms c.args.at.now c.len-2.ensures.rising c.take.ensures.held in
    let not_row : is_row_value ls rows c.args.at.now ≡ false = not_row_value ls rows c.args.at.now (sym c.take.ensures.taken ∙ c.in-None.is) in
    same_view _ _ _ _
    (left-rows ls ms rows c.args.at.now c.self.invariant c.len.ensures.rising not_row alike ∙ ap (λ v. v.held.working) c.self.view_is)
    (c.take.ensures.held ∙ ap (λ v. without_entry v.held.locators c.args.at.now) c.self.view_is)
