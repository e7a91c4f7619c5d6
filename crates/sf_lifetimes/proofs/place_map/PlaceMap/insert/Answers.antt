use Rattle.std.proofs.Common.{◌∙◌, ap, sym, subst, List, ℕ}
use Rattle.std.specs.Ordering.{nat_cmp}
use Rattle.std.specs.Cmp.{nat_cmp_total}
use Rattle.std.specs.FinMap as fin
use Rattle.std.specs.FinMap.{nat_cmp-IsAntisymmetric}
use Rattle.sf_lifetimes.specs.declared.counted.Counted.{Counted}
use Rattle.sf_lifetimes.specs.Inside.Counts.{IsCounted, IsFree, without_holder}
use Rattle.sf_lifetimes.proofs.EntryMapLemmas.{put_at}
use Rattle.sf_lifetimes.proofs.CountLemmas.{placed_counted}
use Rattle.sf_lifetimes.proofs.place_map.PlaceMap.insert.Goals as goal

pub invariant_of-self-2 : goal.invariant_of-self-2
invariant_of-self-2 c =
    let es = c.self.inside.entries.held in
    let none = ap (λ v. fin.get v.held c.args.birth) c.self.view_is ∙ c.requires.new in
    let free = subst (λ v. IsFree v.held c.args.runs) (sym c.self.view_is) c.requires.free in
    let put = ap (λ (xs : List (ℕ × Counted)). fin.from_entries {R = nat_cmp} xs) c.in_ok-insert.ensures.held ∙ put_at nat_cmp nat_cmp_total nat_cmp-IsAntisymmetric es c.args.birth (without_holder c.args.runs) in
    subst (λ n. IsCounted n c.self.inside.live) (sym put) (placed_counted (fin.from_entries es) c.self.inside.live c.args.birth c.args.runs none free c.self.invariant)

pub returns-clause-ok : goal.returns-clause-ok
returns-clause-ok c =
    ap (λ (xs : List (ℕ × Counted)). fin.from_entries {R = nat_cmp} xs) c.in_ok-insert.ensures.held
    ∙ put_at nat_cmp nat_cmp_total nat_cmp-IsAntisymmetric c.self.inside.entries.held c.args.birth (without_holder c.args.runs)
    ∙ ap (λ v. fin.insert v.held c.args.birth (without_holder c.args.runs)) c.self.view_is
