use Rattle.std.proofs.Common.{◌≡◌, true, sym, subst, ap, ◌∙◌}
use Rattle.std.specs.Prelude.{IsSome}
use Rattle.sf_types.specs.Inside.NameMaps.{get, with_entry}
use Rattle.sf_locators.proofs.LocatorLemmas.{within_exchanged}
use Rattle.sf_locators.proofs.locators.Locators.write.Goals as goal

pub invariant_of-self : goal.invariant_of-self
invariant_of-self c =
    within_exchanged c.self.inside.locators.held c.exchange.new.self.held c.args.name.now (λ l. record l { value = c.args.map; transaction = c.args.txn; epoch = c.args.epoch; is_dirty = true })
    c.len-locators.ensures.rising (subst (λ v. IsSome (get v.held c.args.name.now)) (sym c.self.view_is) c.requires) c.exchange.ensures.held c.self.invariant

pub returns-clause-held : goal.returns-clause-held
returns-clause-held c l is =
    c.exchange.ensures.held l (ap (λ v. get v.held c.args.name.now) c.self.view_is ∙ is)
    ∙ ap (λ v. with_entry v.held c.args.name.now (record l { value = c.args.map; transaction = c.args.txn; epoch = c.args.epoch; is_dirty = true })) c.self.view_is
