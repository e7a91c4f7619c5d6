use Rattle.std.proofs.Common.{◌≡◌, ℕ, ◌≤◌, false, length, sym, subst, ap, ◌∙◌}
use Rattle.sf_types.specs.declared.limits.TheConstants.{SESSION_LOCATORS}
use Rattle.sf_types.specs.Inside.NameMaps.{NameMap}
use Rattle.sf_types.specs.Table.Parts.{Locator}
use Rattle.sf_types.specs.Table.Sessions.{lacks_room}
use Rattle.sf_locators.specs.LocatorWrites.{session_with}
use Rattle.sf_locators.proofs.LocatorLemmas.{within_with}
use Rattle.sf_locators.proofs.locators.Locators.set_within.Goals as goal

pub invariant_of-self : goal.invariant_of-self
invariant_of-self c =
    subst (λ (m : NameMap Locator). length m ≤ SESSION_LOCATORS) (sym c.replace.ensures.held)
    (within_with c.self.inside.locators.held c.args.name c.args.locator c.len-locators.ensures.rising
    (subst (λ v. lacks_room (session_with v.held) c.args.name ≡ false) (sym c.self.view_is) c.requires.limit) c.self.invariant)

pub invariant_of-self-else-is_some : goal.invariant_of-self-else-is_some
invariant_of-self-else-is_some c =
    subst (λ (m : NameMap Locator). length m ≤ SESSION_LOCATORS) (sym c.insert_within.ensures.held)
    (within_with c.self.inside.locators.held c.args.name c.args.locator c.len-locators.ensures.rising
    (subst (λ v. lacks_room (session_with v.held) c.args.name ≡ false) (sym c.self.view_is) c.requires.limit) c.self.invariant)
