-- The births that have a byte rise.
use Rattle.std.proofs.Common.{◌≡◌, ℕ, ◌<◌, Bool, true, false, cond, List, [], ◌∷◌, ◌++◌, refl}
use Rattle.std.specs.Prelude.{nat_lt, ◌==◌, map, filter}
use Rattle.std.specs.List.{AllByRecursion}
use Rattle.std.specs.List.Sorted.{IsStrictlySortedBy}
use Rattle.std.specs.declared.cmp.Ordering.TheVariants.{Less, Equal, Greater}
use Rattle.std.specs.Ordering.{nat_cmp}
use Rattle.std.specs.Map.{keys_of}
use Rattle.sf_types.proofs.NumberLemmas.{less}
use Rattle.sf_types.specs.Inside.Births.{IsBelowAll, IsRising, IsAboveAll}
use Rattle.sf_chunk_map.specs.Inside.Counts.{Counts, births_with_bytes}

-- what stands before an item of a rising list is less
pub above_before : (xs ys : List ℕ) (k : ℕ) → IsRising (xs ++ k ∷ ys) → IsAboveAll k xs
above_before [] ys k rising = tt
above_before (x ∷ xs) ys k rising = (below_in xs ys x k rising.0, above_before xs ys k rising.1)
  where
    below_in : (xs ys : List ℕ) (x k : ℕ) → IsBelowAll x (xs ++ k ∷ ys) → x < k
    below_in [] ys x k below = below.0
    below_in (y ∷ xs) ys x k below = below_in xs ys x k below.1

pub lesser : (m n : ℕ) → nat_cmp m n ≡ Less → m < n
lesser m n is = less m n (go (nat_lt m n) (m == n) is)
  where
    go : (t u : Bool) → cond t Less (cond u Equal Greater) ≡ Less → t ≡ true
    go true u is = refl
    go false true is = absurd cc
    go false false is = absurd cc

pub below_listed : (k : ℕ) (m : Counts) → AllByRecursion (λ y. nat_cmp k y ≡ Less) (keys_of m) → IsBelowAll k (births_with_bytes m)
below_listed k [] all = tt
below_listed k (e ∷ m) all =
    let rest = below_listed k m all.1 in
    elim (nat_lt 0 e.1) as (λ t. IsBelowAll k (map (λ (x : ℕ × ℕ). x.0) (cond t (e ∷ filter (λ (x : ℕ × ℕ). nat_lt 0 x.1) m) (filter (λ (x : ℕ × ℕ). nat_lt 0 x.1) m)))) [
      | true ↦ (lesser k e.0 all.0, rest)
      | false ↦ rest
    ]

pub rising_listed : (m : Counts) → IsStrictlySortedBy nat_cmp (keys_of m) → IsRising (births_with_bytes m)
unfolding IsStrictlySortedBy
rising_listed [] sorted = tt
rising_listed (e ∷ m) sorted =
    let rest = rising_listed m sorted.1 in
    elim (nat_lt 0 e.1) as (λ t. IsRising (map (λ (x : ℕ × ℕ). x.0) (cond t (e ∷ filter (λ (x : ℕ × ℕ). nat_lt 0 x.1) m) (filter (λ (x : ℕ × ℕ). nat_lt 0 x.1) m)))) [
      | true ↦ (below_listed e.0 m sorted.0, rest)
      | false ↦ rest
    ]
