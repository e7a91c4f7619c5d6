use Rattle.std.proofs.Common.{◌∙◌, ap, sym, subst, refl, arith, cond, ◌≤◌}
use Rattle.std.specs.Prelude.{IsSome, ◌==◌}
use Rattle.std.specs.Ordering.{nat_cmp}
use Rattle.std.specs.Cmp.{nat_cmp_total}
use Rattle.std.specs.FinMap as fin
use Rattle.sf_lifetimes.specs.Inside.Counts.{with_one_fewer, holders_in}
use Rattle.sf_lifetimes.proofs.EntryMapLemmas.{get_is}
use Rattle.sf_lifetimes.proofs.CountLemmas.{held_is}
use Rattle.sf_lifetimes.proofs.HolderCountLemmas.{lowered_counted, lowered_changed}
use Rattle.sf_lifetimes.proofs.place_map.PlaceMap.lower.Goals as goal

pub exchange-requires : goal.exchange-requires
exchange-requires c =
    let some = subst (λ v. 2 ≤ holders_in (fin.get v.held c.args.birth)) (sym c.self.view_is) c.requires in
    let found = held_is (fin.get (fin.from_entries {R = nat_cmp} c.self.inside.entries.held) c.args.birth) (omega (arith, some)) in
    subst IsSome (sym found.1 ∙ get_is nat_cmp nat_cmp_total c.self.inside.entries.held c.args.birth) refl

pub invariant_of-self : goal.invariant_of-self
invariant_of-self c =
    let some = subst (λ v. 2 ≤ holders_in (fin.get v.held c.args.birth)) (sym c.self.view_is) c.requires in
    lowered_counted c.self.inside.entries.held c.exchange.new.self.held c.args.birth some c.exchange.ensures.held c.self.inside.live c.self.invariant

pub returns-clause-changed : goal.returns-clause-changed
returns-clause-changed c q =
    let some = subst (λ v. 2 ≤ holders_in (fin.get v.held c.args.birth)) (sym c.self.view_is) c.requires in
    lowered_changed c.self.inside.entries.held c.exchange.new.self.held c.args.birth some c.exchange.ensures.held q
    ∙ ap (λ v. cond (q == c.args.birth) (with_one_fewer (fin.get v.held c.args.birth)) (fin.get v.held q)) c.self.view_is
