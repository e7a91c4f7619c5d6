use Rattle.std.proofs.Common.{◌≡◌, Some, IfOk, sym, ap, subst, ◌∙◌}
use Rattle.std.specs.Option.{option_copied}
use Rattle.sf_types.specs.Inside.NameMaps.{get}
use Rattle.sf_types.specs.Space.Reach.{session_births}
use Rattle.sf_own_part.specs.Inside.PartBirths.{part_beside}
use Rattle.sf_own_part.proofs.PartBirthLemmas.{write_births, row_of_locator}
use Rattle.sf_own_part.proofs.own_part.OwnPart.births_beside_write.Goals as goal

pub returns-in-Some : goal.returns-in-Some
returns-in-Some c =
    let o = c.args.self.now.held in
    let at = c.args.at.now in
    let there : get o.part.locators at ≡ Some c.in-Some.locator.now =
    ap (λ v. get v.held.part.locators at) (sym c.self.view_is) ∙ ap (λ m. get m at) (sym c.locators.ensures) ∙ sym c.get.ensures ∙ ap option_copied c.in-Some.is in
    let row = row_of_locator o at c.in-Some.locator.now there ∙ ap (λ v. v.row) (sym c.locator.view_is) in
    subst (λ bs. IfOk c.births_beside.result (λ births. births ≡ bs))
    (ap (λ name. session_births (part_beside (Some name) (Some at) o.part)) (sym row) ∙ write_births o c.args.call.now at c.requires.name)
    c.births_beside.ensures
