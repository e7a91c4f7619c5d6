-- The entry of a birth that has got one holder more, or one fewer.
use Rattle.std.proofs.Common.{◌≡◌, ℕ, ◌+◌, ◌-◌, ◌^◌, ◌<◌, ◌≤◌, List, length, Some, cond, sym, ap, subst, ◌∙◌, arith}
use Rattle.std.specs.Prelude.{◌==◌, IsSome, IfSome, min}
use Rattle.std.specs.Ordering.{nat_cmp}
use Rattle.std.specs.Cmp.{nat_cmp_total}
use Rattle.std.specs.FinMap as fin
use Rattle.std.specs.FinMap.{nat_cmp-IsAntisymmetric}
use Rattle.sf_types.specs.Space.BlockRuns.{blocks_in}
use Rattle.sf_room_map.specs.Entries.{value_for, with_value}
use Rattle.sf_lifetimes.specs.declared.counted.Counted.{Counted}
use Rattle.sf_lifetimes.specs.declared.counted.OneMore.{OneMore}
use Rattle.sf_lifetimes.specs.Inside.Counts.{CountedMap, IsCounted, IsChangedAt, with_one_more, with_one_fewer, holders_in, runs_in}
use Rattle.sf_lifetimes.proofs.EntryMapLemmas.{get_is, value_of, of_some, exchanged_at, exchanged_here}
use Rattle.sf_lifetimes.proofs.CountLemmas.{held_is, recounted, raised_live, lowered_live, few_in_place, fewer_left, changed_at, with_holders, one_more, gained}

abbrev counted_more : Counted → Counted
counted_more c = with_holders c (min (c.holders + 1) (2 ^ 64 - 1))

abbrev map_of : List (ℕ × Counted) → CountedMap
map_of es = fin.from_entries es

module _ (es fs : List (ℕ × Counted)) (b : ℕ) (placed : IsSome (fin.get (map_of es) b)) (few : holders_in (fin.get (map_of es) b) < 2 ^ 63) (held : IfSome (value_for nat_cmp es b) (λ c. fs ≡ with_value nat_cmp es b (counted_more c))) where
  old : Counted
  old = (value_of (fin.get (map_of es) b) placed).0

  old_is : fin.get (map_of es) b ≡ Some old
  unfolding old
  old_is = (value_of (fin.get (map_of es) b) placed).1

  few_before : old.holders < 2 ^ 63
  few_before = omega (arith, few, ap holders_in old_is)

  here : value_for nat_cmp fs b ≡ Some (with_holders old (old.holders + 1))
  here = exchanged_here nat_cmp nat_cmp_total nat_cmp-IsAntisymmetric es fs b counted_more old old_is held ∙ ap (λ (c : Counted). Some c) (one_more old few_before)

  now : map_of fs ≡ fin.insert (map_of es) b (with_holders old (old.holders + 1))
  now = exchanged_at nat_cmp nat_cmp_total nat_cmp-IsAntisymmetric es fs b counted_more old old_is held ∙ ap (fin.insert (map_of es) b) (one_more old few_before)

  pub raised_blocks : (live : ℕ) → IsCounted (map_of es) live → length (blocks_in (runs_in (value_for nat_cmp fs b))) ≤ 2 ^ 32
  raised_blocks live counted = omega (arith, few_in_place (map_of es) live b old old_is counted, ap (λ x. length (blocks_in (runs_in x))) here)

  -- the blocks that the birth then makes live
  pub raised_counted : (live blocks : ℕ) (more : OneMore) → IsCounted (map_of es) live → IfSome (value_for nat_cmp es b) (λ (c : Counted). more ≡ record { before = c.holders })
      → blocks ≡ cond (more.before == 0) (length (blocks_in (runs_in (value_for nat_cmp fs b)))) 0 → IsCounted (map_of fs) (live + blocks)
  raised_counted live blocks more counted taken gain =
      let before = ap (λ (o : OneMore). o.before) (of_some (λ (c : Counted). more ≡ record { before = c.holders }) (value_for nat_cmp es b) old (sym (get_is nat_cmp nat_cmp_total es b) ∙ old_is) taken) in
      let size = cond (old.holders == 0) (length (blocks_in old.runs)) 0 in
      subst (λ k. IsCounted (map_of fs) (live + k)) {x = size} (sym (gained old more.before blocks (old.holders + 1) (value_for nat_cmp fs b) before here gain))
      (subst (λ n. IsCounted n (live + size)) (sym now) (recounted (map_of es) live (live + size) b old (old.holders + 1) old_is counted (raised_live live old)))

  pub raised_changed : IsChangedAt with_one_more (map_of es) b (map_of fs)
  raised_changed q = ap (λ n. fin.get n q) now ∙ changed_at with_one_more (map_of es) b (with_holders old (old.holders + 1)) (ap with_one_more old_is) q

module _ (es fs : List (ℕ × Counted)) (b : ℕ) (some : 2 ≤ holders_in (fin.get (map_of es) b)) (held : IfSome (value_for nat_cmp es b) (λ c. fs ≡ with_value nat_cmp es b (with_holders c (c.holders - 1)))) where
  shared : Counted
  shared = (held_is (fin.get (map_of es) b) (omega (arith, some))).0

  shared_is : fin.get (map_of es) b ≡ Some shared
  unfolding shared
  shared_is = (held_is (fin.get (map_of es) b) (omega (arith, some))).1

  many : 2 ≤ shared.holders
  many = omega (arith, some, ap holders_in shared_is)

  lowered : map_of fs ≡ fin.insert (map_of es) b (with_holders shared (shared.holders - 1))
  lowered = exchanged_at nat_cmp nat_cmp_total nat_cmp-IsAntisymmetric es fs b (λ c. with_holders c (c.holders - 1)) shared shared_is held

  pub lowered_counted : (live : ℕ) → IsCounted (map_of es) live → IsCounted (map_of fs) live
  lowered_counted live counted = subst (λ n. IsCounted n live) (sym lowered) (recounted (map_of es) live live b shared (shared.holders - 1) shared_is counted (ap (λ k. live + k) (lowered_live shared many)))

  pub lowered_changed : IsChangedAt with_one_fewer (map_of es) b (map_of fs)
  lowered_changed q = ap (λ n. fin.get n q) lowered ∙ changed_at with_one_fewer (map_of es) b (with_holders shared (shared.holders - 1)) (fewer_left (fin.get (map_of es) b) shared shared_is many) q
