use Rattle.std.proofs.Common.{◌∙◌, ◌≤◌, ◌-◌, ap, sym, subst, arith, cond, Some, ℕ, List}
use Rattle.std.specs.Prelude.{◌==◌}
use Rattle.std.specs.FinMap as fin
use Rattle.std.specs.FinMap.{get-insert, nat_cmp-IsAntisymmetric}
use Rattle.std.specs.Ordering.{nat_cmp}
use Rattle.std.specs.Cmp.{nat_cmp_total, unsigned_ties}
use Rattle.sf_lifetimes.specs.declared.tally.Tally.{Tally}
use Rattle.sf_lifetimes.specs.Inside.Tallies.{Tallies, freed_sum, freed_in, left_of}
use Rattle.sf_lifetimes.proofs.EntryMapLemmas.{put_at}
use Rattle.sf_lifetimes.proofs.MapSumLemmas.{sum-insert}
use Rattle.sf_lifetimes.proofs.TallyLemmas.{none_freed}
use Rattle.sf_lifetimes.proofs.tally.TallyMap.count.Goals as goal

pub invariant_of-self-2 : goal.invariant_of-self-2
invariant_of-self-2 c =
    let m : Tallies = fin.from_entries c.self.inside.entries.held in
    let t : Tally = record { left = c.left-left.result - 1; blocks = c.args.blocks } in
    let written = ap (λ (xs : List (ℕ × Tally)). fin.from_entries {R = nat_cmp} xs) c.in_ok-insert.ensures.held ∙ put_at nat_cmp nat_cmp_total nat_cmp-IsAntisymmetric c.self.inside.entries.held c.args.birth t in
    let some = subst (λ v. 1 ≤ left_of (fin.get v c.args.birth) c.args.holders) (sym c.self.view_is) c.requires.some in
    omega (arith, c.self.invariant, c.blocks_if_none-gained.ensures, ap freed_sum written, sum-insert nat_cmp nat_cmp_total freed_in m c.args.birth t, none_freed (fin.get m c.args.birth) c.args.holders some)

pub returns : goal.returns
returns c q =
    let m : Tallies = fin.from_entries c.self.inside.entries.held in
    let t : ℕ → Tally = λ k. record { left = k - 1; blocks = c.args.blocks } in
    let written = ap (λ (xs : List (ℕ × Tally)). fin.from_entries {R = nat_cmp} xs) c.in_ok-insert.ensures.held ∙ put_at nat_cmp nat_cmp_total nat_cmp-IsAntisymmetric c.self.inside.entries.held c.args.birth (t c.left-left.result) in
    ap (λ n. fin.get n q) written
    ∙ get-insert nat_cmp_total m c.args.birth (t c.left-left.result) q
    ∙ ap (λ b. cond b (Some (t c.left-left.result)) (fin.get m q)) (sym (unsigned_ties q c.args.birth))
    ∙ ap (λ k. cond (q == c.args.birth) (Some (t k)) (fin.get m q)) c.left-left.ensures
    ∙ ap (λ v. cond (q == c.args.birth) (Some (t (left_of (fin.get c.args.self.now c.args.birth) c.args.holders))) (fin.get v q)) c.self.view_is
