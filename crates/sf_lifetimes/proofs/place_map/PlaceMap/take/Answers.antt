use Rattle.std.proofs.Common.{◌≡◌, ◌∙◌, ap, sym, subst, arith, length, cond, ◌-◌, List, ℕ}
use Rattle.std.specs.Prelude.{◌==◌}
use Rattle.std.specs.Ordering.{nat_cmp}
use Rattle.std.specs.Cmp.{nat_cmp_total}
use Rattle.std.specs.FinMap as fin
use Rattle.std.specs.FinMap.{nat_cmp-IsAntisymmetric}
use Rattle.sf_types.specs.Space.BlockRuns.{blocks_in}
use Rattle.sf_types.proofs.NameMapLemmas.{sorted_from_ordered}
use Rattle.sf_lifetimes.specs.declared.counted.Counted.{Counted}
use Rattle.sf_lifetimes.specs.Inside.Counts.{CountedMap, IsCounted, runs_in, holders_in, with_one_fewer}
use Rattle.sf_lifetimes.proofs.EntryMapLemmas.{get_is, taken_out}
use Rattle.sf_lifetimes.proofs.CountLemmas.{few_in_place, taken_counted, taken_changed}
use Rattle.sf_lifetimes.proofs.place_map.PlaceMap.take.Goals as goal

pub unreachable-requires : goal.unreachable-requires
unreachable-requires c =
    let none = get_is nat_cmp nat_cmp_total c.self.inside.entries.held c.args.birth ∙ sym c.remove.ensures.value ∙ c.in_default.is in
    omega (arith, c.requires, ap (λ v. holders_in (fin.get v.held c.args.birth)) c.self.view_is, ap holders_in none)

pub block_count-requires : goal.block_count-requires
block_count-requires c =
    let is = get_is nat_cmp nat_cmp_total c.self.inside.entries.held c.args.birth ∙ sym c.remove.ensures.value ∙ c.in-Some.is in
    omega (arith, few_in_place (fin.from_entries c.self.inside.entries.held) c.self.inside.live c.args.birth c.in-Some.counted is c.self.invariant)

pub overflow_sub-self : goal.overflow_sub-self
overflow_sub-self c =
    let old = c.in-Some.counted in
    let m : CountedMap = fin.from_entries c.self.inside.entries.held in
    let is = get_is nat_cmp nat_cmp_total c.self.inside.entries.held c.args.birth ∙ sym c.remove.ensures.value ∙ c.in-Some.is in
    let one : old.holders ≡ 1 = omega (arith, c.requires, ap holders_in (sym is), ap (λ v. holders_in (fin.get v.held c.args.birth)) c.self.view_is) in
    omega (arith, (taken_counted m c.self.inside.live c.args.birth old one is c.self.invariant).0, c.block_count.ensures)

pub invariant_of-self : goal.invariant_of-self
invariant_of-self c =
    let old = c.in-Some.counted in
    let es = c.self.inside.entries.held in
    let is = get_is nat_cmp nat_cmp_total es c.args.birth ∙ sym c.remove.ensures.value ∙ c.in-Some.is in
    let one : old.holders ≡ 1 = omega (arith, c.requires, ap holders_in (sym is), ap (λ v. holders_in (fin.get v.held c.args.birth)) c.self.view_is) in
    let gone = ap (λ (xs : List (ℕ × Counted)). fin.from_entries {R = nat_cmp} xs) c.remove.ensures.held
    ∙ taken_out nat_cmp nat_cmp_total nat_cmp-IsAntisymmetric es c.args.birth (sorted_from_ordered nat_cmp es c.len.ensures.rising) in
    subst (λ k. IsCounted (fin.from_entries c.remove.new.self.held) (c.self.inside.live - k)) (sym c.block_count.ensures)
    (subst (λ n. IsCounted n (c.self.inside.live - length (blocks_in old.runs))) (sym gone) (taken_counted (fin.from_entries es) c.self.inside.live c.args.birth old one is c.self.invariant).1)

pub returns-clause-runs : goal.returns-clause-runs
returns-clause-runs c =
    let is = get_is nat_cmp nat_cmp_total c.self.inside.entries.held c.args.birth ∙ sym c.remove.ensures.value ∙ c.in-Some.is in
    ap runs_in (sym is) ∙ ap (λ v. runs_in (fin.get v.held c.args.birth)) c.self.view_is

pub returns-clause-changed : goal.returns-clause-changed
returns-clause-changed c q =
    let es = c.self.inside.entries.held in
    let m : CountedMap = fin.from_entries es in
    let one : holders_in (fin.get m c.args.birth) ≡ 1 = ap (λ v. holders_in (fin.get v.held c.args.birth)) c.self.view_is ∙ c.requires in
    ap (λ (xs : List (ℕ × Counted)). fin.get (fin.from_entries {R = nat_cmp} xs) q) c.remove.ensures.held
    ∙ ap (λ n. fin.get n q) (taken_out nat_cmp nat_cmp_total nat_cmp-IsAntisymmetric es c.args.birth (sorted_from_ordered nat_cmp es c.len.ensures.rising))
    ∙ taken_changed m c.args.birth one q
    ∙ ap (λ v. cond (q == c.args.birth) (with_one_fewer (fin.get v.held c.args.birth)) (fin.get v.held q)) c.self.view_is
