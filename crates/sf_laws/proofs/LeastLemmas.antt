-- The first number of some that passes a test.
use Rattle.std.proofs.Common.{◌≡◌, ℕ, zero, suc, ◌+◌, ◌≤◌, ◌<◌, Bool, true, false, cond, Option, Some, None, refl, sym, ap, ◌∙◌, ◌⊎◌, inl, inr, arith}
use Rattle.std.specs.Prelude.{find}
use Rattle.std.proofs.lemmas.Bool.{cases_lt}
use Rattle.std.specs.List.{range_with_len, last_or}

-- what is known of a number that was found from a on: it passes, it isn't below a, and no number between passes
pub record IsLeastFrom (test : ℕ → Bool) (a h : ℕ) : Type 0 where
  pub passes : test h ≡ true
  pub from : a ≤ h
  pub least : (k : ℕ) → a ≤ k → k < h → test k ≡ false

same-or-after : (a k : ℕ) → a ≤ k → (a ≡ k) ⊎ (a + 1 ≤ k)
same-or-after a k le = choose (cases_lt a k)
  where
    choose : (a < k) ⊎ (k ≤ a) → (a ≡ k) ⊎ (a + 1 ≤ k)
    choose (inl less) = inr (omega (arith, less))
    choose (inr more) = inl (omega (arith, more, le))

pub found-least : (test : ℕ → Bool) (a count h : ℕ) → find test (range_with_len a count) ≡ Some h → IsLeastFrom test a h
found-least test a zero h is = absurd cc
found-least test a (suc count) h is = choose (test a) refl is (found-least test (a + 1) count h)
  where
    choose : (b : Bool) → test a ≡ b → cond {A = Option ℕ} b (Some a) (find test (range_with_len (a + 1) count)) ≡ Some h → (find test (range_with_len (a + 1) count) ≡ Some h → IsLeastFrom test (a + 1) h) → IsLeastFrom test a h
    choose true first is rest =
        let same : a ≡ h = cc is in
        record { passes = ap test (sym same) ∙ first; from = omega (arith, same); least = λ k low high. absurd (omega (arith, low, high, same)) }
    choose false first is rest =
        let later = rest is in
        record {
          passes = later.passes;
          from = omega (arith, later.from);
          least = λ k low high. between k low high (same-or-after a k low) later;
        }
      where
        between : (k : ℕ) → a ≤ k → k < h → (a ≡ k) ⊎ (a + 1 ≤ k) → IsLeastFrom test (a + 1) h → test k ≡ false
        between k low high (inl same) later = ap test (sym same) ∙ first
        between k low high (inr after) later = later.least k after high

pub found-none : (test : ℕ → Bool) (a count k : ℕ) → find test (range_with_len a count) ≡ None → a ≤ k → k < a + count → test k ≡ false
found-none test a zero k is low high = absurd (omega (arith, low, high))
found-none test a (suc count) k is low high = choose (test a) refl is (found-none test (a + 1) count k) (same-or-after a k low)
  where
    choose : (b : Bool) → test a ≡ b → cond {A = Option ℕ} b (Some a) (find test (range_with_len (a + 1) count)) ≡ None → (find test (range_with_len (a + 1) count) ≡ None → a + 1 ≤ k → k < a + 1 + count → test k ≡ false) → (a ≡ k) ⊎ (a + 1 ≤ k) → test k ≡ false
    choose true first is rest where_k = absurd cc
    choose false first is rest (inl same) = ap test (sym same) ∙ first
    choose false first is rest (inr after) = rest is after (omega (arith, high))

-- the last of some numbers
pub last-is : (a count : ℕ) (o : Option ℕ) → last_or o (range_with_len a (suc count)) ≡ Some (a + count)
last-is a zero o = ap (λ (n : ℕ). Some n) (omega arith)
last-is a (suc count) o = last-is (a + 1) count (Some a) ∙ ap (λ (n : ℕ). Some n) (omega arith)
