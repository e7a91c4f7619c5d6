use Rattle.std.proofs.Common.{[], ◌∷◌, sym, ap, ◌∙◌}
use Rattle.std.specs.Option.{option_map_or}
use Rattle.sf_types.specs.Calls.Refusals.{first_refusal}
use Rattle.sf_types.specs.Calls.LocatorCalls.{locator_refusals}
use Rattle.sf_types.specs.Halves.Own.{held_value}
use Rattle.sf_locators.specs.LocatorWrites.{write_refusals}
use Rattle.sf_own_part.proofs.WriteLemmas.{write_refused_so}
use Rattle.sf_own_part.proofs.own_part.OwnPart.write_fault.Goals as goal

pub returns-then-is_some-clause-fault : goal.returns-then-is_some-clause-fault
returns-then-is_some-clause-fault c =
    let p = c.args.self.now.held.part in
    let at = c.args.at.now in
    let known = ap (λ from. first_refusal (locator_refusals p (at ∷ option_map_or (λ x. x ∷ []) from []))) (sym c.source_name.ensures) ∙ sym c.locator_fault.ensures.fault ∙ c.in_default.is in
    let checked = c.check_write-fault.ensures p (ap (λ v. v.held.part.locators) (sym c.self.view_is) ∙ sym c.locators-locators.ensures) (sym c.transaction_number.ensures)
    ∙ ap (λ h. first_refusal (write_refusals p h at)) c.has_lock.ensures in
    write_refused_so p _ (held_value c.args.self.now.held c.args.row.now) at _ c.check_write-fault.result (sym c.is_some.ensures ∙ c.if-is_some.true) known checked
