use Rattle.std.proofs.Common.{sym, ap, subst, ◌∙◌}
use Rattle.sf_types.specs.Inside.NameMaps.{with_entry}
use Rattle.sf_session_values.specs.Inside.Sharing.{rows_by}
use Rattle.sf_session_values.specs.Inside.Sharing.{AreShared}
use Rattle.sf_session_values.proofs.SharingLemmas.{same_view, rows_set, shared_set}
use Rattle.sf_session_values.proofs.values.SessionValues.set_row.Goals as goal

pub invariant_of-self : goal.invariant_of-self
invariant_of-self c =
    let ls = c.self.inside.locators.held in
    let made = c.insert_within.ensures.held ∙ ap (λ w. with_entry c.self.inside.rows.held c.args.row w) c.own.ensures in
    subst (AreShared ls) (sym made) (shared_set ls c.self.inside.rows.held c.args.row c.args.value c.self.invariant)

pub returns : goal.returns
returns c =
    let ls = c.self.inside.locators.held in
    let made = c.insert_within.ensures.held ∙ ap (λ w. with_entry c.self.inside.rows.held c.args.row w) c.own.ensures in
    let rows = ap (rows_by ls) made ∙ rows_set ls c.self.inside.rows.held c.args.row c.args.value in
    same_view _ _ _ _
    (rows ∙ ap (λ v. with_entry v.held.working c.args.row c.args.value) c.self.view_is)
    (ap (λ v. v.held.locators) c.self.view_is)
