use Rattle.std.proofs.Common.{arith, ap, length}
use Rattle.sf_locators.proofs.LocatorLemmas.{fewer_without}
use Rattle.sf_locators.proofs.locators.Locators.take.Goals as goal

pub invariant_of-self : goal.invariant_of-self
invariant_of-self c =
    omega (arith, fewer_without c.self.inside.locators.held c.args.name.now, ap length c.remove.ensures.held, c.self.invariant)
