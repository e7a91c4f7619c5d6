use Rattle.std.proofs.Common.{◌∙◌, ap, sym, subst, arith, cond, ◌<◌, ◌^◌}
use Rattle.std.specs.Prelude.{IsSome, ◌==◌}
use Rattle.std.specs.Ordering.{nat_cmp}
use Rattle.std.specs.Cmp.{nat_cmp_total}
use Rattle.std.specs.FinMap as fin
use Rattle.sf_lifetimes.specs.Inside.Counts.{with_one_more, holders_in}
use Rattle.sf_lifetimes.proofs.EntryMapLemmas.{get_is}
use Rattle.sf_lifetimes.proofs.CountLemmas.{few_live}
use Rattle.sf_lifetimes.proofs.HolderCountLemmas.{raised_blocks, raised_counted, raised_changed}
use Rattle.sf_lifetimes.proofs.place_map.PlaceMap.raise.Goals as goal

pub exchange-requires : goal.exchange-requires
exchange-requires c = subst IsSome (ap (λ v. fin.get v.held c.args.birth) (sym c.self.view_is) ∙ get_is nat_cmp nat_cmp_total c.self.inside.entries.held c.args.birth) c.requires.placed

pub blocks_if_unheld-requires : goal.blocks_if_unheld-requires
blocks_if_unheld-requires c =
    let b = c.args.birth in
    let placed = subst (λ v. IsSome (fin.get v.held b)) (sym c.self.view_is) c.requires.placed in
    let few = subst (λ v. holders_in (fin.get v.held b) < 2 ^ 63) (sym c.self.view_is) c.requires.few in
    omega (arith, raised_blocks c.self.inside.entries.held c.exchange.new.self.held b placed few c.exchange.ensures.held c.self.inside.live c.self.invariant)

pub overflow_add-self : goal.overflow_add-self
overflow_add-self c =
    let b = c.args.birth in
    let placed = subst (λ v. IsSome (fin.get v.held b)) (sym c.self.view_is) c.requires.placed in
    let few = subst (λ v. holders_in (fin.get v.held b) < 2 ^ 63) (sym c.self.view_is) c.requires.few in
    omega (arith, few_live _ _ (raised_counted c.self.inside.entries.held c.exchange.new.self.held b placed few c.exchange.ensures.held c.self.inside.live c.blocks_if_unheld.result c.exchange.new.other c.self.invariant c.exchange.ensures.taken c.blocks_if_unheld.ensures))

pub invariant_of-self : goal.invariant_of-self
invariant_of-self c =
    let b = c.args.birth in
    let placed = subst (λ v. IsSome (fin.get v.held b)) (sym c.self.view_is) c.requires.placed in
    let few = subst (λ v. holders_in (fin.get v.held b) < 2 ^ 63) (sym c.self.view_is) c.requires.few in
    raised_counted c.self.inside.entries.held c.exchange.new.self.held b placed few c.exchange.ensures.held c.self.inside.live c.blocks_if_unheld.result c.exchange.new.other c.self.invariant c.exchange.ensures.taken c.blocks_if_unheld.ensures

pub returns-clause-changed : goal.returns-clause-changed
returns-clause-changed c q =
    let b = c.args.birth in
    let placed = subst (λ v. IsSome (fin.get v.held b)) (sym c.self.view_is) c.requires.placed in
    let few = subst (λ v. holders_in (fin.get v.held b) < 2 ^ 63) (sym c.self.view_is) c.requires.few in
    raised_changed c.self.inside.entries.held c.exchange.new.self.held b placed few c.exchange.ensures.held q
    ∙ ap (λ v. cond (q == b) (with_one_more (fin.get v.held b)) (fin.get v.held q)) c.self.view_is
