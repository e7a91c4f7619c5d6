use Rattle.std.proofs.Common.{ap, ◌∙◌}
use Rattle.sf_types.specs.Calls.Savepoints.{is_since, with_losses}
use Rattle.sf_session_values.proofs.SharingLemmas.{same_view, unshared-rows, unshared-shared}
use Rattle.sf_session_values.proofs.values.SessionValues.roll_back_to.Goals as goal

pub invariant_of-self : goal.invariant_of-self
invariant_of-self c = unshared-shared c.rolled_back_to.new.self.held c.rows.inside.rows.held c.rows.invariant

pub returns : goal.returns
returns c x is =
    same_view _ _ _ _
    (unshared-rows c.rolled_back_to.new.self.held c.rows.inside.rows.held c.rows.invariant c.len-count.ensures.rising ∙ c.rows.view_is)
    (c.rolled_back_to.ensures.held x is ∙ ap (λ v. with_losses (is_since x) v.held.locators) c.self.view_is)
