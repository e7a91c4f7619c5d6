-- What tests of numbers tell.
use Rattle.std.proofs.Common.{◌≡◌, ℕ, ◌-◌, ◌≤◌, ◌<◌, Bool, true, false, ◌&&◌, IsTrue, refl, arith}
use Rattle.std.specs.Prelude.{nat_le, nat_lt, ◌==◌}
use Rattle.std.proofs.lemmas.Bool.Decides.{nat_tests, Decides-eqb}

pub at_most : (m n : ℕ) → nat_le m n ≡ true → m ≤ n
at_most m n is = grind (arith, nat_tests)

pub less : (m n : ℕ) → nat_lt m n ≡ true → m < n
less m n is = grind (arith, nat_tests)

pub not_less : (m n : ℕ) → nat_lt m n ≡ false → n ≤ m
not_less m n is = grind (arith, nat_tests)

pub greater : (m n : ℕ) → nat_lt m n ≡ false → (m == n) ≡ false → n < m
greater m n is apart = grind (arith, nat_tests)

pub same_number : (a b : ℕ) → (a == b) ≡ true → a ≡ b
same_number a b is = (Decides-eqb a b).0 is

pub own_number : (a : ℕ) → (a == a) ≡ true
own_number a = (Decides-eqb a a).1 refl

pub not_same : (a b : ℕ) → (a == b) ≡ false → a ≡ b → ⊥
not_same a b is same = let equal : (a == b) ≡ true = (Decides-eqb a b).1 same in cc

pub other_number : (a b : ℕ) → (a ≡ b → ⊥) → (a == b) ≡ false
other_number a b apart = go (a == b) refl
  where
    go : (x : Bool) → (a == b) ≡ x → (a == b) ≡ false
    go true is = absurd (apart (same_number a b is))
    go false is = is

-- a number from 1 to n
pub from_one : (s n : ℕ) → IsTrue (nat_le 1 s && nat_le s n) → 1 ≤ s
from_one s n has = grind (arith, nat_tests)

pub one_less : (s n : ℕ) → IsTrue (nat_le 1 s && nat_le s n) → s - 1 < n
one_less s n has = grind (arith, nat_tests)
