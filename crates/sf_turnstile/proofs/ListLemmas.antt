-- Lists of which one item changes, and their elements.
use Rattle.std.proofs.Common.{◌≡◌, ◌≢◌, ◌⊎◌, ℕ, zero, suc, ◌+◌, ◌<◌, ◌≤◌, List, [], ◌∷◌, ◌++◌, length, set, Contains, refl, sym, ap, ◌∙◌, subst, arith, inl, inr, ⊎_elim, sum_by}
use mathlib.Core.Option.{some, some-injective, some-ne-none}
use lib.ListN.{get_elem?}
use Rattle.std.proofs.lemmas.List.Sums.{sum_by-cons}
use Rattle.atomic_table.proofs.Lists.{at_set, set_here, set_else}

module _ {A : Type 0} where
  pub at_within : (l : List A) (i : ℕ) (a : A) → get_elem? l i ≡ some a → i < length l
  at_within [] i a e = absurd (some-ne-none a (sym e))
  at_within (x ∷ xs) zero a e = omega arith
  at_within (x ∷ xs) (suc i) a e = let r = at_within xs i a e in omega arith

  pub at_changed : (l : List A) (i : ℕ) (a b : A) → get_elem? l i ≡ some a → get_elem? (set l i b) i ≡ some b
  at_changed l i a b e = set_here l i b (at_within l i a e)

  pub at_unchanged : (l : List A) (i j : ℕ) (a b : A) → j ≢ i → get_elem? l j ≡ some a → get_elem? (set l i b) j ≡ some a
  at_unchanged l i j a b ne e = set_else l i j b ne ∙ e

  pub same_at : (l : List A) (i : ℕ) (a b : A) → get_elem? l i ≡ some a → get_elem? l i ≡ some b → a ≡ b
  same_at l i a b p q = some-injective a b (sym p ∙ q)

  -- what holds of each item after one has changed
  pub all_changed : (P : ℕ → A → Type 0) (l : List A) (i : ℕ) (b : A) → ((j : ℕ) (u : A) → j ≢ i → get_elem? l j ≡ some u → P j u) → P i b → (j : ℕ) (u : A) → get_elem? (set l i b) j ≡ some u → P j u
  all_changed P l i b others mine j u e =
      ⊎_elim
      (λ (x : (j ≡ i) × (b ≡ u)). subst (λ (y : ℕ × A). P y.0 y.1) (λ k. (sym x.0 k, x.1 k)) mine)
      (λ (x : (j ≢ i) × (get_elem? l j ≡ some u)). others j u x.0 x.1)
      (at_set l i j b u e)

  pub sum_changed : (f : A → ℕ) (l : List A) (i : ℕ) (a b : A) → get_elem? l i ≡ some a → sum_by f (set l i b) + f a ≡ sum_by f l + f b
  sum_changed f [] i a b e = absurd (some-ne-none a (sym e))
  sum_changed f (x ∷ xs) zero a b e = let is : f x ≡ f a = ap f (some-injective x a e) in omega (arith, sum_by-cons f x xs, sum_by-cons f b xs)
  sum_changed f (x ∷ xs) (suc i) a b e = omega (arith, sum_changed f xs i a b e, sum_by-cons f x xs, sum_by-cons f x (set xs i b))

  pub sum_at_least : (f : A → ℕ) (l : List A) (i : ℕ) (a : A) → get_elem? l i ≡ some a → f a ≤ sum_by f l
  sum_at_least f [] i a e = absurd (some-ne-none a (sym e))
  sum_at_least f (x ∷ xs) zero a e = let is : f x ≡ f a = ap f (some-injective x a e) in omega (arith, sum_by-cons f x xs)
  sum_at_least f (x ∷ xs) (suc i) a e = omega (arith, sum_at_least f xs i a e, sum_by-cons f x xs)

  pub at_some : (l : List A) (i : ℕ) → i < length l → (a : A) × (get_elem? l i ≡ some a)
  at_some [] i h = absurd (omega arith)
  at_some (x ∷ xs) zero h = (x, refl)
  at_some (x ∷ xs) (suc i) h = at_some xs i (omega arith)

  -- where one item was put behind the others
  pub at_pushed : (l : List A) (a b : A) (j : ℕ) → get_elem? (l ++ a ∷ []) j ≡ some b → (get_elem? l j ≡ some b) ⊎ ((j ≡ length l) × (a ≡ b))
  at_pushed [] a b zero e = inr (refl, some-injective a b e)
  at_pushed [] a b (suc j) e = absurd (some-ne-none b (sym e))
  at_pushed (x ∷ xs) a b zero e = inl e
  at_pushed (x ∷ xs) a b (suc j) e = ⊎_elim inl (λ t. inr (ap suc t.0, t.1)) (at_pushed xs a b j e)

pub contains_cons : (x s : ℕ) (xs : List ℕ) → Contains (x ∷ xs) s → (s ≡ x) ⊎ Contains xs s
contains_cons x s xs (zero, lt, e) = inl (sym e)
contains_cons x s xs (suc k, lt, e) = inr (k, omega arith, e)

pub contains_first : (x : ℕ) (xs : List ℕ) → Contains (x ∷ xs) x
contains_first x xs = (0, omega arith, refl)

pub contains_more : (x s : ℕ) (xs : List ℕ) → Contains xs s → Contains (x ∷ xs) s
contains_more x s xs c = let l = c.1 in (suc c.0, omega arith, c.2)
