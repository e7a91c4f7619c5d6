-- Sums over rising births: of fewer births the sum is at most that of more.
use Rattle.std.proofs.Common.{◌≡◌, ℕ, ◌≤◌, ◌<◌, true, false, cond, List, [], ◌∷◌, refl, subst, arith, ◌⊎◌, inl, inr, ⊎_elim}
use Rattle.std.specs.Prelude.{nat_lt, sum_by, Contains, ◌==◌}
use Rattle.std.specs.List.{AllByRecursion as Each}
use Rattle.std.proofs.lemmas.List.Sums.{sum_by-cons}
use Rattle.sf_types.specs.Inside.Births.{IsBelowAll, IsRising, with_birth, rising_births}
use Rattle.sf_laws.proofs.EachLemmas.{each_weaker, each_contained, each_itself}
use Rattle.sf_types.proofs.NumberLemmas.{less, greater}

below_with : (a b : ℕ) (bs : List ℕ) → a < b → IsBelowAll a bs → IsBelowAll a (with_birth b bs)
below_with a b [] lt below = (lt, tt)
below_with a b (c ∷ bs) lt below =
    elim (nat_lt b c) as (λ x. IsBelowAll a (cond x (b ∷ c ∷ bs) (cond (b == c) (c ∷ bs) (c ∷ with_birth b bs)))) [
      | true ↦ (lt, below)
      | false ↦ elim (b == c) as (λ x. IsBelowAll a (cond x (c ∷ bs) (c ∷ with_birth b bs))) [
        | true ↦ below
        | false ↦ (below.0, below_with a b bs lt below.1)
      ]
    ]

pub below_more : (a b : ℕ) (bs : List ℕ) → a < b → IsBelowAll b bs → IsBelowAll a bs
below_more a b [] lt below = tt
below_more a b (c ∷ bs) lt below = (omega (arith, below.0), below_more a b bs lt below.1)

with_birth_rises : (b : ℕ) (bs : List ℕ) → IsRising bs → IsRising (with_birth b bs)
with_birth_rises b [] rises = (tt, tt)
with_birth_rises b (c ∷ bs) rises =
    elim (nat_lt b c) as (λ x. nat_lt b c ≡ x → IsRising (cond x (b ∷ c ∷ bs) (cond (b == c) (c ∷ bs) (c ∷ with_birth b bs)))) [
      | true ↦ λ is. ((less b c is, below_more b c bs (less b c is) rises.0), rises)
      | false ↦ λ is. elim (b == c) as (λ x. (b == c) ≡ x → IsRising (cond x (c ∷ bs) (c ∷ with_birth b bs))) [
        | true ↦ λ same. rises
        | false ↦ λ same. (below_with c b bs (greater b c is same) rises.0, with_birth_rises b bs rises.1)
      ] refl
    ] refl

pub rising_rises : (bs : List ℕ) → IsRising (rising_births bs)
rising_rises [] = tt
rising_rises (b ∷ bs) = with_birth_rises b (rising_births bs) (rising_rises bs)

-- an element is the first or one of the rest
pub first_or_rest : (b : ℕ) (bs : List ℕ) (a : ℕ) → Contains (b ∷ bs) a → (a ≡ b) ⊎ Contains bs a
first_or_rest b bs a has =
    each_contained (λ x. (x ≡ b) ⊎ Contains bs x) (b ∷ bs) a
    (inl refl, each_weaker (Contains bs) (λ x. (x ≡ b) ⊎ Contains bs x) bs (λ x is. inr is) (each_itself bs)) has

pub each_below : (b : ℕ) (bs : List ℕ) → IsBelowAll b bs → Each (λ x. b < x) bs
each_below b [] below = tt
each_below b (c ∷ bs) below = (below.0, each_below b bs below.1)

-- what stands in a list and isn't its first stands in the rest
pub in_rest : (b : ℕ) (bs xs : List ℕ) → IsBelowAll b xs → Each (Contains (b ∷ bs)) xs → Each (Contains bs) xs
in_rest b bs [] below all = tt
in_rest b bs (x ∷ xs) below all =
    (⊎_elim (λ (same : x ≡ b). absurd (omega (arith, below.0))) (λ (rest : Contains bs x). rest) (first_or_rest b bs x all.0), in_rest b bs xs below.1 all.1)

pub sum_among : (f : ℕ → ℕ) (fewer more : List ℕ) → IsRising fewer → IsRising more → Each (Contains more) fewer → sum_by f fewer ≤ sum_by f more
sum_among f [] more rises risen all = omega arith
sum_among f (a ∷ fewer) [] rises risen all = absurd (none a all.0)
  where
    none : (x : ℕ) → Contains [] x → ⊥
    none x has = omega (arith, has.1)
sum_among f (a ∷ fewer) (b ∷ more) rises risen all =
    ⊎_elim
    (λ (same : a ≡ b).
    let rest = sum_among f fewer more rises.1 risen.1 (in_rest b more fewer (subst (λ x. IsBelowAll x fewer) same rises.0) all.1) in
    rw (sum_by-cons f a fewer) (rw (sum_by-cons f b more) (rw same (omega (arith, rest)))))
    (λ (later : Contains more a).
    let above : b < a = each_contained (λ x. b < x) more a (each_below b more risen.0) later in
    let rest = sum_among f (a ∷ fewer) more rises risen.1 (later, in_rest b more fewer (below_more b a fewer above rises.0) all.1) in
    rw (sum_by-cons f b more) (omega (arith, rest)))
    (first_or_rest b more a all.0)
