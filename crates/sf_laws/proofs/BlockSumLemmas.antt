-- Sums over blocks, and lists in which no block stands twice.
use Rattle.std.proofs.Common.{◌≡◌, ℕ, ◌+◌, ◌≤◌, true, false, cond, List, [], ◌∷◌, ◌++◌, length, refl, sym, ap, subst, arith}
use Rattle.std.specs.Prelude.{◌≢◌, nat_lt, sum_by, ◌==◌, AllPairs, Contains, IsPermutation}
use Rattle.std.specs.List.{AllByRecursion as Each}
use Rattle.std.proofs.lemmas.List.Sums.{sum_by-cons, sum_by-append}
use Rattle.std.proofs.lemmas.List.Elements.{All-from_recursion}
use Rattle.std.proofs.lemmas.List.Kept.{AllPairs-cons}
use Rattle.std.proofs.lemmas.List.Sorted.{IsPermutation-refl, IsPermutation-cons, IsPermutation-trans, IsPermutation-sym, IsPermutation-middle}
use Rattle.sf_types.specs.Inside.Births.{IsBelowAll, IsRising, with_birth, rising_births}
use Rattle.sf_types.proofs.NumberLemmas.{same_number, own_number, other_number}
use Rattle.sf_laws.proofs.EachLemmas.{each_weaker, each_contained}

-- 1 where two numbers are the same.
abbrev pub is_one : ℕ → ℕ → ℕ
is_one b x = cond (b == x) 1 0

-- How often a number stands in a list.
abbrev pub count_of : ℕ → List ℕ → ℕ
count_of b xs = sum_by (is_one b) xs

-- No number stands twice.
pub record IsOnce (xs : List ℕ) : Type 0 where
  pub most : (b : ℕ) → count_of b xs ≤ 1

pub one_itself : (b : ℕ) → is_one b b ≡ 1
one_itself b = rw (own_number b) refl

pub one_apart : (b x : ℕ) → (b ≡ x → ⊥) → is_one b x ≡ 0
one_apart b x apart = rw (other_number b x apart) refl

pub each_some : (xs : List ℕ) → Each (λ x. 1 ≤ count_of x xs) xs
each_some [] = tt
each_some (x ∷ xs) =
    let own = one_itself x in
    let first = sum_by-cons (is_one x) x xs in
    (omega (arith, own, first), each_weaker (λ y. 1 ≤ count_of y xs) (λ y. 1 ≤ count_of y (x ∷ xs)) xs (λ y le. let cons = sum_by-cons (is_one y) x xs in omega (arith, cons, le)) (each_some xs))

-- what holds of each number that is counted
pub each_counted : (P : ℕ → Type 0) (xs : List ℕ) → ((b : ℕ) → 1 ≤ count_of b xs → P b) → Each P xs
each_counted P xs f = each_weaker (λ x. 1 ≤ count_of x xs) P xs f (each_some xs)

pub from_counted : (P : ℕ → Type 0) (xs : List ℕ) (b : ℕ) → Each P xs → 1 ≤ count_of b xs → P b
from_counted P [] b all le = absurd (omega (arith, le))
from_counted P (x ∷ xs) b all le =
    elim (b == x) as (λ c. (b == x) ≡ c → P b) [
      | true ↦ λ is. subst P (sym (same_number b x is)) all.0
      | false ↦ λ is.
          let none : is_one b x ≡ 0 = rw is refl in
          let cons = sum_by-cons (is_one b) x xs in
          from_counted P xs b all.1 (omega (arith, none, cons, le))
    ] refl

pub counted_some : (xs : List ℕ) (b : ℕ) → Contains xs b → 1 ≤ count_of b xs
counted_some xs b has = each_contained (λ x. 1 ≤ count_of x xs) xs b (each_some xs) has

pub count_none : (b : ℕ) (xs : List ℕ) → Each (λ x. b ≡ x → ⊥) xs → count_of b xs ≡ 0
count_none b [] all = refl
count_none b (x ∷ xs) all =
    let own = one_apart b x all.0 in
    let rest = count_none b xs all.1 in
    let cons = sum_by-cons (is_one b) x xs in
    omega (arith, own, rest, cons)

pub once_head : (x : ℕ) (xs : List ℕ) → IsOnce (x ∷ xs) → count_of x xs ≡ 0
once_head x xs once =
    let own = one_itself x in
    let cons = sum_by-cons (is_one x) x xs in
    let most = once.most x in
    omega (arith, own, cons, most)

pub once_tail : (x : ℕ) (xs : List ℕ) → IsOnce (x ∷ xs) → IsOnce xs
once_tail x xs once = record { most = λ b. let cons = sum_by-cons (is_one b) x xs in let most = once.most b in omega (arith, cons, most) }

pub once_apart : (xs : List ℕ) → IsOnce xs → AllPairs (λ x y. x ≢ y) xs
once_apart [] once = λ i j d less within. absurd (omega (arith, less, within))
once_apart (x ∷ xs) once =
    let none = once_head x xs once in
    AllPairs-cons (λ y z. y ≢ z) x xs
    (All-from_recursion (λ y. x ≢ y) xs (each_counted (λ y. x ≢ y) xs (λ y le same. let most : 1 ≤ count_of x xs = subst (λ z. 1 ≤ count_of z xs) (sym same) le in omega (arith, most, none))))
    (once_apart xs (once_tail x xs once))

pub count_below : (b : ℕ) (xs : List ℕ) → IsBelowAll b xs → count_of b xs ≡ 0
count_below b xs below = count_none b xs (apart b xs below)
  where
    apart : (b : ℕ) (xs : List ℕ) → IsBelowAll b xs → Each (λ x. b ≡ x → ⊥) xs
    apart b [] below = tt
    apart b (x ∷ xs) below = (λ same. omega (arith, same, below.0), apart b xs below.1)

rising_most : (x : ℕ) (xs : List ℕ) → IsBelowAll x xs → IsOnce xs → (b : ℕ) → count_of b (x ∷ xs) ≤ 1
rising_most x xs below once b =
    let cons = sum_by-cons (is_one b) x xs in
    let rest = once.most b in
    elim (b == x) as (λ c. (b == x) ≡ c → count_of b (x ∷ xs) ≤ 1) [
      | true ↦ λ is.
          let none = count_below x xs below in
          let same : count_of b xs ≡ count_of x xs = ap (λ y. count_of y xs) (same_number b x is) in
          let one : is_one b x ≡ 1 = rw is refl in
          omega (arith, none, same, one, cons)
      | false ↦ λ is. let none : is_one b x ≡ 0 = rw is refl in omega (arith, none, cons, rest)
    ] refl

pub once_rising : (xs : List ℕ) → IsRising xs → IsOnce xs
once_rising [] rises = record { most = λ b. omega arith }
once_rising (x ∷ xs) rises = record { most = rising_most x xs rises.0 (once_rising xs rises.1) }

-- a number that stands in a rising list no more
pub with_birth_sum : (f : ℕ → ℕ) (b : ℕ) (bs : List ℕ) → count_of b bs ≡ 0 → sum_by f (with_birth b bs) ≡ f b + sum_by f bs
with_birth_sum f b [] none = sum_by-cons f b []
with_birth_sum f b (c ∷ bs) none =
    let cons = sum_by-cons (is_one b) c bs in
    elim (nat_lt b c) as (λ x. sum_by f (cond x (b ∷ c ∷ bs) (cond (b == c) (c ∷ bs) (c ∷ with_birth b bs))) ≡ f b + sum_by f (c ∷ bs)) [
      | true ↦ sum_by-cons f b (c ∷ bs)
      | false ↦ elim (b == c) as (λ x. (b == c) ≡ x → sum_by f (cond x (c ∷ bs) (c ∷ with_birth b bs)) ≡ f b + sum_by f (c ∷ bs)) [
        | true ↦ λ is. let one : is_one b c ≡ 1 = rw is refl in absurd (omega (arith, one, cons, none))
        | false ↦ λ is.
            let rest = with_birth_sum f b bs (omega (arith, cons, none)) in
            let own = sum_by-cons f c (with_birth b bs) in
            let all = sum_by-cons f c bs in
            omega (arith, rest, own, all)
      ] refl
    ]

pub rising_sum : (f : ℕ → ℕ) (xs : List ℕ) → IsOnce xs → sum_by f (rising_births xs) ≡ sum_by f xs
rising_sum f [] once = refl
rising_sum f (x ∷ xs) once =
    let tail = once_tail x xs once in
    let none = once_head x xs once in
    let same = rising_sum (is_one x) xs tail in
    let first = with_birth_sum f x (rising_births xs) (omega (arith, same, none)) in
    let rest = rising_sum f xs tail in
    let cons = sum_by-cons f x xs in
    omega (arith, first, rest, cons)

-- the number of items as a sum
pub count_length : (xs : List ℕ) → sum_by (λ x. 1) xs ≡ length xs
count_length [] = refl
count_length (x ∷ xs) =
    let cons = sum_by-cons (λ (y : ℕ). 1) x xs in
    let rest = count_length xs in
    omega (arith, cons, rest)

-- where a number stands
record Found (b : ℕ) (ys : List ℕ) : Type 0 where
  front : List ℕ
  back : List ℕ
  parts : ys ≡ front ++ b ∷ back

found : (b : ℕ) (ys : List ℕ) → 1 ≤ count_of b ys → Found b ys
found b [] le = absurd (omega (arith, le))
found b (y ∷ ys) le =
    elim (b == y) as (λ c. (b == y) ≡ c → Found b (y ∷ ys)) [
      | true ↦ λ is. record { front = []; back = ys; parts = ap (λ (z : ℕ). z ∷ ys) (sym (same_number b y is)) }
      | false ↦ λ is.
          let none : is_one b y ≡ 0 = rw is refl in
          let cons = sum_by-cons (is_one b) y ys in
          let rest = found b ys (omega (arith, none, cons, le)) in
          record { front = y ∷ rest.front; back = rest.back; parts = ap (λ (zs : List ℕ). y ∷ zs) rest.parts }
    ] refl

-- lists that count alike are permutations
pub permutation_counted : (xs ys : List ℕ) → ((b : ℕ) → count_of b ys ≡ count_of b xs) → IsPermutation xs ys
permutation_counted [] [] same = IsPermutation-refl []
permutation_counted [] (y ∷ ys) same =
    let own = one_itself y in
    let cons = sum_by-cons (is_one y) y ys in
    let none = same y in
    absurd (omega (arith, own, cons, none))
permutation_counted (x ∷ xs) ys same =
    let own = one_itself x in
    let cons = sum_by-cons (is_one x) x xs in
    let some = same x in
    let at = found x ys (omega (arith, own, cons, some)) in
    let fewer : (b : ℕ) → count_of b (at.front ++ at.back) ≡ count_of b xs = λ b.
    let whole : count_of b ys ≡ count_of b (at.front ++ x ∷ at.back) = ap (count_of b) at.parts in
    let split = sum_by-append (is_one b) at.front (x ∷ at.back) in
    let first = sum_by-cons (is_one b) x at.back in
    let joined = sum_by-append (is_one b) at.front at.back in
    let all = sum_by-cons (is_one b) x xs in
    let is = same b in
    omega (arith, whole, split, first, joined, all, is) in
    let rest = permutation_counted xs (at.front ++ at.back) fewer in
    subst (IsPermutation (x ∷ xs)) (sym at.parts)
    (IsPermutation-trans _ _ _ (IsPermutation-cons x xs (at.front ++ at.back) rest) (IsPermutation-sym _ _ (IsPermutation-middle at.front x at.back)))
