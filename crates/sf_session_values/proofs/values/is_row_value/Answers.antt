use Rattle.std.proofs.Common.{◌≡◌, false, Some, sym, ap, ◌∙◌}
use Rattle.std.specs.Option.{option_copied, option_map_or}
use Rattle.std.specs.Cmp.Lexicographic.{texts_ties}
use Rattle.sf_types.specs.Inside.NameMaps.{get}
use Rattle.sf_session_values.specs.declared.working.Working.TheVariants as working
use Rattle.sf_session_values.specs.Inside.Sharing.{is_through}
use Rattle.sf_session_values.proofs.values.is_row_value.Goals as goal

pub returns-in-Some-Through : goal.returns-in-Some-Through
returns-in-Some-Through c =
    let rows = c.args.rows.now.held in
    let at = c.args.at.now in
    let there : get c.args.locators.now.held at ≡ Some c.in-Some.locator.now = sym c.get.ensures ∙ ap option_copied c.in-Some.is in
    let found : get rows c.in-Some.locator.now.row ≡ Some (working.Through c.in-Some-Through.other) =
    ap (λ v. get rows v.row) (sym c.locator.view_is) ∙ sym c.get-2.ensures ∙ ap option_copied c.in-Some-Through.is ∙ ap Some c.in-Some-Through.field-0-is in
    c.eq.ensures ∙ texts_ties at c.in-Some-Through.other ∙ sym (ap (λ x. option_map_or (λ l. option_map_or (is_through at) (get rows l.row) false) x false) there ∙ ap (λ x. option_map_or (is_through at) x false) found)

pub returns-in-Some-Own : goal.returns-in-Some-Own
returns-in-Some-Own c =
    let rows = c.args.rows.now.held in
    let at = c.args.at.now in
    let there : get c.args.locators.now.held at ≡ Some c.in-Some.locator.now = sym c.get.ensures ∙ ap option_copied c.in-Some.is in
    let found : get rows c.in-Some.locator.now.row ≡ Some (working.Own c.in-Some-Own.field-0-0) =
    ap (λ v. get rows v.row) (sym c.locator.view_is) ∙ sym c.get-2.ensures ∙ ap option_copied c.in-Some-Own.is ∙ ap Some c.in-Some-Own.field-0-is in
    sym (ap (λ x. option_map_or (λ l. option_map_or (is_through at) (get rows l.row) false) x false) there ∙ ap (λ x. option_map_or (is_through at) x false) found)

pub returns-in-Some-Absent : goal.returns-in-Some-Absent
returns-in-Some-Absent c =
    let rows = c.args.rows.now.held in
    let at = c.args.at.now in
    let there : get c.args.locators.now.held at ≡ Some c.in-Some.locator.now = sym c.get.ensures ∙ ap option_copied c.in-Some.is in
    let found : get rows c.in-Some.locator.now.row ≡ Some working.Absent =
    ap (λ v. get rows v.row) (sym c.locator.view_is) ∙ sym c.get-2.ensures ∙ ap option_copied c.in-Some-Absent.is ∙ ap Some c.in-Some-Absent.field-0-is in
    sym (ap (λ x. option_map_or (λ l. option_map_or (is_through at) (get rows l.row) false) x false) there ∙ ap (λ x. option_map_or (is_through at) x false) found)
