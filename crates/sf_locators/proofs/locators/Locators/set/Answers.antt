use Rattle.std.proofs.Common.{◌≡◌, false, sym, subst}
use Rattle.sf_types.specs.Rooms.{GrowsWithin}
use Rattle.sf_types.specs.Table.Sessions.{lacks_room}
use Rattle.sf_locators.specs.LocatorWrites.{session_with, locators_added}
use Rattle.sf_locators.proofs.LocatorLemmas.{within_set}
use Rattle.sf_locators.proofs.locators.Locators.set.Goals as goal

pub invariant_of-self : goal.invariant_of-self
invariant_of-self c =
    within_set c.insert.result c.self.inside.locators.held c.insert.new.self.held c.args.name c.args.locator c.len-locators.ensures.rising
    (subst (λ v. lacks_room (session_with v.held) c.args.name ≡ false) (sym c.self.view_is) c.requires)
    c.self.invariant c.insert.ensures.held c.insert.ensures.room.left

pub returns-clause-room : goal.returns-clause-room
returns-clause-room c =
    subst (λ v. GrowsWithin v c.insert.new.self (locators_added v.held c.args.name) (locators_added v.held c.args.name) c.insert.result) c.self.view_is c.insert.ensures.room
