use Rattle.std.proofs.Common.{◌≡◌, ℕ, ◌+◌, ◌-◌, ◌<◌, ◌≤◌, true, false, min, max, nat_lt, List, refl, ◌⊎◌, inl, inr, arith}
use Rattle.std.specs.Prelude.{nat_le, IsPermutation}
use Rattle.std.proofs.lemmas.Bool.{cases_lt}
use Rattle.std.proofs.lemmas.Bool.Decides.{nat_tests}
use Rattle.std.proofs.lemmas.List.Sorted.{IsPermutation-refl}
use Rattle.sf_types.specs.Values.Marks.{Marked}
use Rattle.sf_types.specs.Values.Edits.{move, move_front, move_back}
use Rattle.sf_laws.specs.Splices.{IsSameOutside}
use Rattle.sf_laws.proofs.SwapLemmas.{swapped_permutation, swapped_outside, front-is, back-is}
use Rattle.sf_laws.proofs.edits.move_permutes.Goals as goal

-- which of the three a move is
to_front : (v : List Marked) (amount from to : ℕ) → to < from → move v amount from to ≡ move_front v amount from to
to_front v amount from to lt = let is : nat_lt to from ≡ true = grind (arith, nat_tests) in rw is refl

stays : (v : List Marked) (amount from to : ℕ) → from ≤ to → to ≤ from + amount → move v amount from to ≡ v
stays v amount from to low high =
    let first : nat_lt to from ≡ false = grind (arith, nat_tests) in
    let second : nat_le to (from + amount) ≡ true = grind (arith, nat_tests) in
    rw (first, second) refl

to_back : (v : List Marked) (amount from to : ℕ) → from + amount < to → move v amount from to ≡ move_back v amount from to
to_back v amount from to lt =
    let first : nat_lt to from ≡ false = grind (arith, nat_tests) in
    let second : nat_le to (from + amount) ≡ false = grind (arith, nat_tests) in
    rw (first, second) refl

pub returns-clause-permutation : goal.returns-clause-permutation
returns-clause-permutation c v amount from to some there = by_place (cases_lt to from) (cases_lt (from + amount) to)
  where
    by_place : (to < from) ⊎ (from ≤ to) → (from + amount < to) ⊎ (to ≤ from + amount) → IsPermutation v (move v amount from to)
    by_place (inl lt) other = rw (to_front v amount from to lt, front-is v amount from to there lt) (swapped_permutation (to - 1) (from - to) amount v)
    by_place (inr low) (inl lt) = rw (to_back v amount from to lt, back-is v amount from to some lt) (swapped_permutation (from - 1) amount (to - (from + amount)) v)
    by_place (inr low) (inr high) = rw (stays v amount from to low high) (IsPermutation-refl v)

outside-is : (v w : List Marked) (a b c d : ℕ) → a ≡ c → b ≡ d → IsSameOutside v w c d → IsSameOutside v w a b
outside-is v w a b c d first second same = rw (first, second) same

pub returns-clause-outside : goal.returns-clause-outside
returns-clause-outside c v amount from to some there inside place = by_place (cases_lt to from) (cases_lt (from + amount) to)
  where
    by_place : (to < from) ⊎ (from ≤ to) → (from + amount < to) ⊎ (to ≤ from + amount) → IsSameOutside v (move v amount from to) (min from to - 1) (max (from + amount) to - 1)
    by_place (inl lt) other =
        rw (to_front v amount from to lt, front-is v amount from to there lt)
        (outside-is v _ (min from to - 1) (max (from + amount) to - 1) (to - 1) (to - 1 + (from - to) + amount) (omega (arith, lt)) (omega (arith, lt, there)) (swapped_outside (to - 1) (from - to) amount v (omega (arith, lt, there, inside))))
    by_place (inr low) (inl lt) =
        rw (to_back v amount from to lt, back-is v amount from to some lt)
        (outside-is v _ (min from to - 1) (max (from + amount) to - 1) (from - 1) (from - 1 + amount + (to - (from + amount))) (omega (arith, low)) (omega (arith, lt, some)) (swapped_outside (from - 1) amount (to - (from + amount)) v (omega (arith, lt, some, place))))
    by_place (inr low) (inr high) = rw (stays v amount from to low high) (record { before = refl; after = refl })
