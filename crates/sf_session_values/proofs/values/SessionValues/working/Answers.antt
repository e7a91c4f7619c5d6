use Rattle.std.proofs.Common.{Some, sym, ap, ◌∙◌}
use Rattle.std.specs.Option.{option_copied, option_map}
use Rattle.sf_types.specs.Inside.NameMaps.{get}
use Rattle.sf_session_values.specs.Inside.Sharing.{value_by}
use Rattle.sf_session_values.proofs.SharingLemmas.{get-rows}
use Rattle.sf_session_values.proofs.values.SessionValues.working.Goals as goal

pub returns-in-Some : goal.returns-in-Some
returns-in-Some c =
    let ls = c.self.inside.locators.held in
    ap Some c.value_by.ensures
    ∙ ap (option_map (value_by ls)) (sym (ap option_copied c.in-Some.is) ∙ c.get.ensures)
    ∙ sym (get-rows ls c.self.inside.rows.held c.args.row.now)
    ∙ ap (λ v. get v.held.working c.args.row.now) c.self.view_is

pub returns-in-None : goal.returns-in-None
returns-in-None c =
    let ls = c.self.inside.locators.held in
    ap (option_map (value_by ls)) (sym (ap option_copied c.in-None.is) ∙ c.get.ensures)
    ∙ sym (get-rows ls c.self.inside.rows.held c.args.row.now)
    ∙ ap (λ v. get v.held.working c.args.row.now) c.self.view_is
