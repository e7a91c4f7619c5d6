-- How counts change.
use Rattle.std.proofs.Common.{◌≡◌, ℕ, zero, suc, ◌+◌, ◌-◌, ◌^◌, ◌<◌, ◌≤◌, Bool, true, false, cond, nat_lt, List, [], ◌∷◌, length, flat_map, take, get_or, eqb, Option, Some, None, refl, sym, ap, ◌∙◌, arith, length-append}
use Rattle.std.specs.Prelude.{◌==◌, ◌||◌, ◌≢◌, AllPairs, min}
use Rattle.std.specs.List.{list_any, sum_by, count_by, AllByRecursion, IsDistinct}
use Rattle.std.specs.Ordering.{nat_cmp}
use Rattle.std.specs.Cmp.{nat_cmp_total, unsigned_ties, unsigned_Decides}
use Rattle.std.specs.FinMap as fin
use Rattle.std.specs.FinMap.{nat_cmp-IsAntisymmetric, get-insert, get-remove, empty}
use Rattle.std.proofs.lemmas.Bool.Decides.{nat_tests}
use Rattle.std.proofs.lemmas.List.{length-take}
use Rattle.std.proofs.lemmas.List.Folds.{list_any_more, list_any_at}
use Rattle.std.proofs.lemmas.List.Sums.{sum_by-cons, sum_by-append, sum_by-le-sum_by, length-filter, count_by-le-length}
use Rattle.std.proofs.lemmas.Map.Made.{IsDistinct-from_AllPairs}
use Rattle.std.proofs.lemmas.Map.Steps.{length-le_from_distinct_below}
use Rattle.sf_types.specs.declared.birth_runs.BirthRuns.{BirthRuns}
use Rattle.sf_types.specs.declared.run.Run.{Run}
use Rattle.sf_types.specs.Inside.Births.{IsBelowAll, IsRising}
use Rattle.sf_types.specs.Space.BlockRuns.{blocks_in}
use Rattle.sf_types.proofs.NumberLemmas.{same_number, own_number, less}
use Rattle.sf_lifetimes.specs.declared.counted.Counted.{Counted}
use Rattle.sf_lifetimes.specs.Ledgers.{has_birth}
use Rattle.sf_lifetimes.specs.Inside.Counts.{CountedMap, IsCounted, IsFree, without_holder, IsChangedAt, with_one_fewer, live_in, times, holders_in, runs_in, last_births, lone_births, runs_of_births}
use Rattle.sf_lifetimes.proofs.MapSumLemmas.{weight, weight-le, sum-insert, sum-remove, no_values}

pub none_counted : IsCounted empty 0
none_counted = record {
  once = λ block. omega (arith, ap (sum_by (times block)) (no_values nat_cmp));
  live_is = sym (ap (sum_by live_in) (no_values nat_cmp));
}

-- numbers that stand once each, below a bound, are no more than it
no_more : (x : ℕ) (ys : List ℕ) → count_by (λ y. x == y) ys ≡ 0 → AllByRecursion (λ y. eqb x y ≡ false) ys
no_more x [] none = tt
no_more x (y ∷ ys) none =
    elim (eqb x y) as (λ t. eqb x y ≡ t → AllByRecursion (λ y. eqb x y ≡ false) (y ∷ ys)) [
      | true ↦ λ t. absurd (omega (arith, none, sum_by-cons (λ y. cond (x == y) 1 0) y ys, ap {B = ℕ} (λ b. cond b 1 0) t))
      | false ↦ λ t. (t, no_more x ys (omega (arith, none, sum_by-cons (λ y. cond (x == y) 1 0) y ys)))
    ] refl

pub distinct : (xs : List ℕ) → ((x : ℕ) → count_by (λ y. x == y) xs ≤ 1) → IsDistinct eqb xs
unfolding IsDistinct
distinct [] most = tt
distinct (x ∷ xs) most = (
  no_more x xs (omega (arith, most x, sum_by-cons (λ y. cond (x == y) 1 0) x xs, ap {B = ℕ} (λ b. cond b 1 0) (own_number x))),
  distinct xs (λ z. omega (arith, most z, sum_by-cons (λ y. cond (z == y) 1 0) x xs)),
)

some_count : (q : ℕ) (xs : List ℕ) → list_any (eqb q) xs ≡ true → 1 ≤ count_by (λ y. q == y) xs
some_count q [] is = absurd cc
some_count q (x ∷ xs) is =
    elim (eqb q x) as (λ t. eqb q x ≡ t → (t || list_any (eqb q) xs) ≡ true → 1 ≤ count_by (λ y. q == y) (x ∷ xs)) [
      | true ↦ λ t _. omega (arith, sum_by-cons (λ y. cond (q == y) 1 0) x xs, ap {B = ℕ} (λ b. cond b 1 0) t)
      | false ↦ λ t rest. omega (arith, sum_by-cons (λ y. cond (q == y) 1 0) x xs, some_count q xs rest)
    ] refl is

pub below : (q n : ℕ) → 1 ≤ cond (nat_lt q n) 1 0 → q < n
below q n some = grind (arith, nat_tests, some)

pub once_below : (q n : ℕ) → cond (nat_lt q n) 1 0 ≤ 1
once_below q n = grind (arith, nat_tests)

pub few_numbers : (xs : List ℕ) (n : ℕ) → ((x : ℕ) → count_by (λ y. x == y) xs ≤ cond (nat_lt x n) 1 0) → length xs ≤ n
few_numbers xs n most =
    length-le_from_distinct_below xs n
    (distinct xs (λ x. omega (arith, most x, once_below x n)))
    (λ q some. below q n (omega (arith, most q, some_count q xs some)))

-- the blocks of all places
blocks_of_all : List Counted → List ℕ
blocks_of_all cs = flat_map (λ c. blocks_in c.runs) cs

count-all : (block : ℕ) (cs : List Counted) → count_by (λ y. block == y) (blocks_of_all cs) ≡ sum_by (times block) cs
unfolding blocks_of_all
count-all block [] = refl
count-all block (c ∷ cs) = omega (arith, sum_by-append (λ y. cond (block == y) 1 0) (blocks_in c.runs) (blocks_of_all cs), count-all block cs, sum_by-cons (times block) c cs)

length-all : (cs : List Counted) → length (blocks_of_all cs) ≡ sum_by (λ c. length (blocks_in c.runs)) cs
unfolding blocks_of_all
length-all [] = refl
length-all (c ∷ cs) = omega (arith, length-append (blocks_in c.runs) (blocks_of_all cs), length-all cs, sum_by-cons (λ (c : Counted). length (blocks_in c.runs)) c cs)

live-le : (c : Counted) → live_in c ≤ length (blocks_in c.runs)
live-le c = elim (c.holders == 0) as (λ b. cond b 0 (length (blocks_in c.runs)) ≤ length (blocks_in c.runs)) [ true ↦ omega arith | false ↦ omega arith ]

-- no more than 2^32 blocks are live
pub few_live : (m : CountedMap) (live : ℕ) → IsCounted m live → live ≤ 2 ^ 32
few_live m live counted =
    let cs = fin.values m in
    let few = few_numbers (blocks_of_all cs) (2 ^ 32) (λ x. omega (arith, count-all x cs, counted.once x)) in
    omega (arith, counted.live_is, sum_by-le-sum_by live_in (λ (c : Counted). length (blocks_in c.runs)) cs live-le, length-all cs, few)

-- what a map has at a birth after its place was changed
pub changed_at : (change : Option Counted → Option Counted) (m : CountedMap) (b : ℕ) (c : Counted) → change (fin.get m b) ≡ Some c → IsChangedAt change m b (fin.insert m b c)
changed_at change m b c is q =
    get-insert nat_cmp_total m b c q
    ∙ ap (λ t. cond t (Some c) (fin.get m q)) (sym (unsigned_ties q b))
    ∙ ap (λ x. cond (q == b) x (fin.get m q)) (sym is)

-- a place with another number of holders
abbrev pub with_holders : Counted → ℕ → Counted
with_holders c h = record { runs = c.runs; holders = h }

-- what has a holder is there
pub held_is : (x : Option Counted) → 1 ≤ holders_in x → (c : Counted) × (x ≡ Some c)
held_is None some = absurd (omega (arith, some))
held_is (Some c) some = (c, refl)

-- a place that stands in a map has no more than 2^32 blocks
pub few_in_place : (m : CountedMap) (live b : ℕ) (c : Counted) → fin.get m b ≡ Some c → IsCounted m live → length (blocks_in c.runs) ≤ 2 ^ 32
few_in_place m live b c is counted =
    few_numbers (blocks_in c.runs) (2 ^ 32)
    (λ x. omega (arith, counted.once x, weight-le nat_cmp nat_cmp_total nat_cmp-IsAntisymmetric (times x) m b, ap (weight (times x)) is))

pub few_at : (m : CountedMap) (live b : ℕ) → IsCounted m live → length (blocks_in (runs_in (fin.get m b))) ≤ 2 ^ 32
few_at m live b counted = elim (fin.get m b) as (λ x. fin.get m b ≡ x → length (blocks_in (runs_in x)) ≤ 2 ^ 32) [
  | None ↦ λ _. omega arith
  | Some c ↦ λ is. few_in_place m live b c is counted
] refl

-- a place keeps its blocks, and its number of holders is another
pub recounted : (m : CountedMap) (live new : ℕ) (b : ℕ) (c : Counted) (h : ℕ) → fin.get m b ≡ Some c → IsCounted m live → new + live_in c ≡ live + live_in (with_holders c h) → IsCounted (fin.insert m b (with_holders c h)) new
recounted m live new b c h is counted change =
    let d = with_holders c h in
    let got = λ (f : Counted → ℕ). ap (weight f) is in
    record {
      once = λ block. omega (arith, counted.once block, sum-insert nat_cmp nat_cmp_total (times block) m b d, got (times block));
      live_is = omega (arith, counted.live_is, change, sum-insert nat_cmp nat_cmp_total live_in m b d, got live_in);
    }

-- the blocks that one holder more makes live
pub raised_live : (live : ℕ) (c : Counted) → (live + cond (c.holders == 0) (length (blocks_in c.runs)) 0) + live_in c ≡ live + live_in (with_holders c (c.holders + 1))
raised_live live c =
    let size = length (blocks_in c.runs) in
    let more : (c.holders + 1 == 0) ≡ false = grind (arith, nat_tests) in
    omega (arith, ap {B = ℕ} (λ t. cond t 0 size) more, by_cases (c.holders == 0) size)
  where
    by_cases : (t : Bool) (size : ℕ) → cond t size 0 + cond t 0 size ≡ size
    by_cases true size = omega arith
    by_cases false size = omega arith

-- a count that is far below its bound rises by one
pub one_more : (c : Counted) → c.holders < 2 ^ 63 → with_holders c (min (c.holders + 1) (2 ^ 64 - 1)) ≡ with_holders c (c.holders + 1)
one_more c few = ap (with_holders c) (grind (arith, nat_tests, few))

pub gained : (old : Counted) (before blocks h : ℕ) (x : Option Counted) → before ≡ old.holders → x ≡ Some (with_holders old h) → blocks ≡ cond (before == 0) (length (blocks_in (runs_in x))) 0 → blocks ≡ cond (old.holders == 0) (length (blocks_in old.runs)) 0
gained old before blocks h x held is gain =
    gain
    ∙ ap (λ k. cond (k == 0) (length (blocks_in (runs_in x))) 0) held
    ∙ ap (λ y. cond (old.holders == 0) (length (blocks_in (runs_in y))) 0) is

-- one holder fewer leaves a place live where it had more
pub lowered_live : (c : Counted) → 2 ≤ c.holders → live_in c ≡ live_in (with_holders c (c.holders - 1))
lowered_live c some =
    let size = length (blocks_in c.runs) in
    let before : (c.holders == 0) ≡ false = grind (arith, nat_tests, some) in
    let after : (c.holders - 1 == 0) ≡ false = grind (arith, nat_tests, some) in
    ap {B = ℕ} (λ t. cond t 0 size) (before ∙ sym after)

pub fewer_left : (x : Option Counted) (c : Counted) → x ≡ Some c → 2 ≤ c.holders → with_one_fewer x ≡ Some (with_holders c (c.holders - 1))
fewer_left x c is some =
    let more : (c.holders == 1) ≡ false = grind (arith, nat_tests, some) in
    ap with_one_fewer is ∙ ap (λ t. cond t None (Some (with_holders c (c.holders - 1)))) more

-- a place that one holder holds is taken out
pub taken_counted : (m : CountedMap) (live b : ℕ) (c : Counted) → c.holders ≡ 1 → fin.get m b ≡ Some c → IsCounted m live
    → (length (blocks_in c.runs) ≤ live) × IsCounted (fin.remove m b) (live - length (blocks_in c.runs))
taken_counted m live b c one is counted =
    let more : (c.holders == 0) ≡ false = grind (arith, nat_tests, one) in
    let size = length (blocks_in c.runs) in
    let now = ap {B = ℕ} (λ t. cond t 0 size) more in
    let left = λ (f : Counted → ℕ). sum-remove nat_cmp nat_cmp_total nat_cmp-IsAntisymmetric f m b in (
      omega (arith, left live_in, ap (weight live_in) is, counted.live_is, now),
      record {
        once = λ block. omega (arith, counted.once block, left (times block));
        live_is = omega (arith, left live_in, ap (weight live_in) is, counted.live_is, now);
      },
    )

pub both_fit : (t s most : ℕ) → t ≤ most → (1 ≤ t → s ≡ 0) → s ≤ most → s + t ≤ most
both_fit zero s most le none fits = omega (arith, fits)
both_fit (suc t) s most le none fits = omega (arith, le, none (omega arith))

-- a new place that nobody holds
pub placed_counted : (m : CountedMap) (live b : ℕ) (runs : List Run) → fin.get m b ≡ None → IsFree m runs → IsCounted m live → IsCounted (fin.insert m b (without_holder runs)) live
placed_counted m live b runs none free counted =
    let d = without_holder runs in
    let left = λ (f : Counted → ℕ). ap (weight f) none in
    record {
      once = λ block. omega (arith, both_fit (times block d) (sum_by (times block) (fin.values m)) (cond (nat_lt block (2 ^ 32)) 1 0) (free block).0 (free block).1 (counted.once block), sum-insert nat_cmp nat_cmp_total (times block) m b d, left (times block));
      live_is = omega (arith, counted.live_is, sum-insert nat_cmp nat_cmp_total live_in m b d, left live_in);
    }

-- ---- blocks that stand in a list
pub none_counted_in : (q : ℕ) (xs : List ℕ) → has_birth xs q ≡ false → count_by (λ y. q == y) xs ≡ 0
none_counted_in q [] none = refl
none_counted_in q (x ∷ xs) none =
    elim (q == x) as (λ t. (q == x) ≡ t → (t || has_birth xs q) ≡ false → count_by (λ y. q == y) (x ∷ xs) ≡ 0) [
      | true ↦ λ t bad. absurd cc
      | false ↦ λ t rest. omega (arith, sum_by-cons (λ y. cond (q == y) 1 0) x xs, ap {B = ℕ} (λ b. cond b 1 0) t, none_counted_in q xs rest)
    ] refl none

pub stands_in : (q : ℕ) (xs : List ℕ) → 1 ≤ count_by (λ y. q == y) xs → has_birth xs q ≡ true
stands_in q xs some = elim (has_birth xs q) as (λ t. has_birth xs q ≡ t → t ≡ true) [
  | true ↦ λ _. refl
  | false ↦ λ none. absurd (omega (arith, some, none_counted_in q xs none))
] refl

others : (x : ℕ) (ys : List ℕ) → AllByRecursion (λ y. eqb x y ≡ false) ys → count_by (λ y. x == y) ys ≡ 0
others x [] none = refl
others x (y ∷ ys) none = omega (arith, sum_by-cons (λ y. cond (x == y) 1 0) y ys, ap {B = ℕ} (λ b. cond b 1 0) none.0, others x ys none.1)

counted_once : (xs : List ℕ) → IsDistinct eqb xs → (q : ℕ) → count_by (λ y. q == y) xs ≤ 1
unfolding IsDistinct
counted_once [] distinct q = omega arith
counted_once (x ∷ xs) distinct q =
    elim (q == x) as (λ t. (q == x) ≡ t → count_by (λ y. q == y) (x ∷ xs) ≤ 1) [
      | true ↦ λ t. omega (arith, sum_by-cons (λ y. cond (q == y) 1 0) x xs, ap {B = ℕ} (λ b. cond b 1 0) t, ap (λ z. count_by (λ y. z == y) xs) (same_number q x t), others x xs distinct.0)
      | false ↦ λ t. omega (arith, sum_by-cons (λ y. cond (q == y) 1 0) x xs, ap {B = ℕ} (λ b. cond b 1 0) t, counted_once xs distinct.1 q)
    ] refl

pub named_once : (xs : List ℕ) → AllPairs (λ x y. x ≢ y) xs → (q : ℕ) → count_by (λ y. q == y) xs ≤ 1
named_once xs apart = counted_once xs (IsDistinct-from_AllPairs unsigned_Decides xs apart)

-- ---- one change after another
pub below_at : (x : ℕ) (xs : List ℕ) (k : ℕ) → IsBelowAll x xs → k < length xs → x < get_or xs k 0
below_at x [] k below less = absurd (omega (arith, less))
below_at x (y ∷ xs) zero below less = below.0
below_at x (y ∷ xs) (suc k) below less = below_at x xs k below.1 (omega (arith, less))

pub other_number : (x y : ℕ) → x < y → (y == x) ≡ false
other_number x y less = grind (arith, nat_tests, less)

-- a birth of a rising list isn't among those before it
pub not_before : (xs : List ℕ) (k : ℕ) → IsRising xs → k < length xs → has_birth (take k xs) (get_or xs k 0) ≡ false
not_before [] k rising less = absurd (omega (arith, less))
not_before (x ∷ xs) zero rising less = refl
not_before (x ∷ xs) (suc k) rising less =
    ap (λ t. t || has_birth (take k xs) (get_or xs k 0)) (other_number x (get_or xs k 0) (below_at x xs k rising.0 (omega (arith, less))))
    ∙ not_before xs k rising.1 (omega (arith, less))

or_at : {X : Type 0} (a b : Bool) (x y : X) → (b ≡ true → a ≡ false) → cond b x (cond a x y) ≡ cond (a || b) x y
or_at true true x y apart = let bad = apart refl in absurd cc
or_at true false x y apart = refl
or_at false true x y apart = refl
or_at false false x y apart = refl

-- what stands before a birth in a rising list has left what it has alone
pub point_same : {X : Type 0} (g : ℕ → X → X) (f h : ℕ → X) (xs : List ℕ) (k : ℕ) → IsRising xs → k < length xs → ((q : ℕ) → h q ≡ cond (has_birth (take k xs) q) (g q (f q)) (f q)) → h (get_or xs k 0) ≡ f (get_or xs k 0)
point_same g f h xs k rising less before =
    let b = get_or xs k 0 in
    before b ∙ ap (λ t. cond t (g b (f b)) (f b)) (not_before xs k rising less)

-- the next birth of a rising list is changed
pub point_next : {X : Type 0} (g : ℕ → X → X) (f h p : ℕ → X) (xs : List ℕ) (k : ℕ) → IsRising xs → k < length xs → ((q : ℕ) → h q ≡ cond (has_birth (take k xs) q) (g q (f q)) (f q))
    → ((q : ℕ) → p q ≡ cond (q == get_or xs k 0) (g (get_or xs k 0) (h (get_or xs k 0))) (h q)) → (q : ℕ) → p q ≡ cond (has_birth (take (k + 1) xs) q) (g q (f q)) (f q)
point_next g f h p xs k rising less before now q =
    let b = get_or xs k 0 in
    now q
    ∙ elim (q == b) as (λ t. (q == b) ≡ t → cond t (g b (h b)) (h q) ≡ cond t (g q (f q)) (h q)) [
      | true ↦ λ t. ap (g b) (point_same g f h xs k rising less before) ∙ ap (λ n. g n (f n)) (sym (same_number q b t))
      | false ↦ λ t. refl
    ] refl
    ∙ ap (cond (q == b) (g q (f q))) (before q)
    ∙ or_at (has_birth (take k xs) q) (q == b) (g q (f q)) (f q) (λ t. ap (has_birth (take k xs)) (same_number q b t) ∙ not_before xs k rising less)
    ∙ ap (λ t. cond t (g q (f q)) (f q)) (sym (list_any_more (λ x. q == x) xs k 0 less))

pub has_own : (xs : List ℕ) (k : ℕ) → k < length xs → has_birth xs (get_or xs k 0) ≡ true
has_own xs k less = list_any_at (λ b. get_or xs k 0 == b) xs k 0 less (own_number (get_or xs k 0))

-- a place that one holder holds goes where it has one fewer
pub taken_changed : (m : CountedMap) (b : ℕ) → holders_in (fin.get m b) ≡ 1 → IsChangedAt with_one_fewer m b (fin.remove m b)
taken_changed m b one q =
    get-remove nat_cmp_total m b q
    ∙ ap (λ t. cond t None (fin.get m q)) (sym (unsigned_ties q b))
    ∙ ap (λ x. cond (q == b) x (fin.get m q)) (sym (gone (fin.get m b) one))
  where
    gone : (x : Option Counted) → holders_in x ≡ 1 → with_one_fewer x ≡ None
    gone None is = refl
    gone (Some c) is = ap (λ k. cond (k == 1) None (Some (with_holders c (k - 1)))) is

-- the place that one birth gives, where it has one holder
pub one_released : (m n : CountedMap) (b : ℕ) → fin.get n b ≡ fin.get m b → runs_of_births n (last_births n (b ∷ [])) ≡ runs_of_births m (last_births m (b ∷ []))
one_released m n b is =
    ap (λ t. runs_of_births n (cond t (b ∷ []) [])) (ap (λ x. holders_in x == 1) is)
    ∙ elim (holders_in (fin.get m b) == 1) as (λ t. runs_of_births n (cond t (b ∷ []) []) ≡ runs_of_births m (cond t (b ∷ []) [])) [
      | true ↦ ap one is
      | false ↦ refl
    ]
  where
    one : Option Counted → List BirthRuns
    one x = record { birth = b; runs = runs_in x } ∷ []

pub one_length : (m n : CountedMap) (b : ℕ) → fin.get n b ≡ fin.get m b → length (last_births n (b ∷ [])) ≡ cond (holders_in (fin.get m b) == 1) 1 0
one_length m n b is =
    ap (λ t. length (cond t (b ∷ []) [])) (ap (λ x. holders_in x == 1) is)
    ∙ elim (holders_in (fin.get m b) == 1) as (λ t. length (cond t (b ∷ []) []) ≡ cond t 1 0) [ true ↦ refl | false ↦ refl ]

pub lone_few : (m : CountedMap) (more xs : List ℕ) (k : ℕ) → k ≤ length xs → length (lone_births m more (take k xs)) ≤ k
lone_few m more xs k le =
    let p : ℕ → Bool = λ b. (holders_in (fin.get m b) + cond (has_birth more b) 1 0) == 1 in
    omega (arith, le, length-filter p (take k xs), count_by-le-length p (take k xs), length-take k xs)

-- ---- a search in a rising list
pub rising_le : (xs : List ℕ) → IsRising xs → (i j : ℕ) → i ≤ j → j < length xs → get_or xs i 0 ≤ get_or xs j 0
rising_le [] rising i j le less = absurd (omega (arith, less))
rising_le (x ∷ xs) rising zero zero le less = omega arith
rising_le (x ∷ xs) rising zero (suc j) le less = let lt = below_at x xs j rising.0 (omega (arith, less)) in omega (arith, lt)
rising_le (x ∷ xs) rising (suc i) zero le less = absurd (omega (arith, le))
rising_le (x ∷ xs) rising (suc i) (suc j) le less = rising_le xs rising.1 i j (omega (arith, le)) (omega (arith, less))

pub not_there : (xs : List ℕ) (x : ℕ) → ((k : ℕ) → k < length xs → (x == get_or xs k 0) ≡ false) → has_birth xs x ≡ false
not_there [] x apart = refl
not_there (y ∷ xs) x apart = ap (λ t. t || has_birth xs x) (apart zero (omega arith)) ∙ not_there xs x (λ k less. apart (suc k) (omega (arith, less)))
