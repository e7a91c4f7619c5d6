use Rattle.std.proofs.Common.{◌≡◌, ◌++◌, List, ℕ, [], Option, ap, subst, ◌∙◌, refl}
use Rattle.std.specs.Option.{IfSome, option_copied, option_map_or}
use Rattle.sf_types.specs.Inside.Births.{rising_births}
use Rattle.sf_session_values.specs.ValueBirths.{births_of_locators, births_of_rows, locators_beside, rows_beside}
use Rattle.sf_session_values.specs.Inside.Counting.{births_of_own_rows, workings_beside}
use Rattle.sf_session_values.specs.Inside.EntryBirths.{births_of_row_through}
use Rattle.sf_session_values.proofs.BesideLemmas.{beside_same}
use Rattle.sf_session_values.proofs.values.SessionValues.add_births_beside.Goals as goal
use Rattle.sf_session_values.proofs.values.SessionValues.add_births_beside.Goals.{in-Some+in_ok-add_own-in-Some, in-None+in_ok-add_row_births-in-None}

pub returns : goal.returns
returns c =
    let ls = c.self.inside.locators.held in
    let rows = c.self.inside.rows.held in
    let row = option_copied c.args.row in
    let at = option_copied c.args.at in
    let into = c.args.into.now in
    let located = births_of_locators (locators_beside at c.args.self.now.held.locators) in
    elim c.match-branch-2.branch [
      | in-Some+in_ok-add_own-in-Some w ↦
          let own : List ℕ = w.in-Some.births in
          let own_is : own ≡ rising_births (births_of_own_rows (workings_beside row rows)) = subst (λ (o : Option (List ℕ)). IfSome o (λ births. births ≡ rising_births (births_of_own_rows (workings_beside row rows)))) w.in-Some.is c.in_ok-births.ensures in
          ap rising_births (c.in_ok-add_locator_births.ensures ∙ ap (λ (bs : List ℕ). bs ++ located) (w.into-is ∙ w.in_ok-add_own-in-Some.ensures))
          ∙ subst (λ v. rising_births (((into ++ own) ++ option_map_or (births_of_row_through v.held row) at []) ++ births_of_locators (locators_beside at v.held.locators))
          ≡ rising_births ((into ++ births_of_rows (rows_beside row v.held.working)) ++ births_of_locators (locators_beside at v.held.locators))) c.self.view_is
          (beside_same ls rows c.self.invariant c.len.ensures.rising c.len-2.ensures.rising row at into own _ own_is refl)
      | in-None+in_ok-add_row_births-in-None w ↦
          ap rising_births (c.in_ok-add_locator_births.ensures ∙ ap (λ (bs : List ℕ). bs ++ located) (w.into-is ∙ w.in_ok-add_row_births-in-None.ensures))
    ]
