-- What holders hold after one of them holds something else, and in a half where one session was changed.
use Rattle.std.proofs.Common.{◌≡◌, ℕ, zero, suc, ◌-◌, ◌≤◌, ◌<◌, Some, None, Bool, true, false, cond, List, [], ◌∷◌, length, Option, refl, sym, ap, ◌∙◌, arith}
use Rattle.std.specs.Prelude.{◌==◌, ◌&&◌, nat_le, slice_set, unwrap_or}
use Rattle.std.specs.Option.{option_map_or}
use Rattle.std.specs.Ordering.{eq_by_cmp}
use Rattle.std.specs.Cmp.Lexicographic.{texts_ties}
use Rattle.std.specs.FinMap as fin
use Rattle.std.specs.FinMap.{get-insert, get-remove}
use Rattle.std.proofs.lemmas.Bool.Decides.{nat_tests}
use Rattle.sf_types.specs.declared.holder.Holder.{Holder}
use Rattle.sf_types.specs.declared.holder.Holder.TheVariants as holder
use Rattle.sf_types.specs.Inside.Holders.{holder_cmp, holder_cmp_total}
use Rattle.sf_types.specs.Table.Parts.{Promise}
use Rattle.sf_types.specs.Halves.Asks.{Half, Kept, kept_at, new_kept, with_kept}
use Rattle.sf_types.proofs.NumberLemmas.{same_number, not_same}
use Rattle.sf_laws.proofs.PositionLemmas.{get_set, get_set_other}
use Rattle.sf_lifetimes.specs.Ledgers.{Holdings, held_by, with_births}
use Rattle.sf_store_half.specs.Fields.{held_in, is_session}

-- whether two holders are one
abbrev pub is_holder : Holder → Holder → Bool
is_holder x y = eq_by_cmp holder_cmp x y

pub held_after : (m : Holdings) (y : Holder) (births : List ℕ) (x : Holder) → held_by (with_births m y births) x ≡ cond (is_holder x y) births (held_by m x)
held_after m y [] x = ap (λ (o : Option (List ℕ)). unwrap_or o []) (get-remove holder_cmp_total m y x) ∙ either (is_holder x y)
  where
    either : (t : Bool) → unwrap_or (cond {A = Option (List ℕ)} t None (fin.get m x)) [] ≡ cond t [] (held_by m x)
    either true = refl
    either false = refl
held_after m y (b ∷ bs) x = ap (λ (o : Option (List ℕ)). unwrap_or o []) (get-insert holder_cmp_total m y (b ∷ bs) x) ∙ either (is_holder x y)
  where
    either : (t : Bool) → unwrap_or (cond {A = Option (List ℕ)} t (Some (b ∷ bs)) (fin.get m x)) [] ≡ cond t (b ∷ bs) (held_by m x)
    either true = refl
    either false = refl

-- ---- which holders are one
and_true : (t : Bool) → (t && true) ≡ t
and_true true = refl
and_true false = refl

pub same_session : (t s : ℕ) → is_holder (holder.Session t) (holder.Session s) ≡ (t == s)
same_session t s = sym (texts_ties (1 ∷ t ∷ []) (1 ∷ s ∷ [])) ∙ and_true (t == s)

pub same_promise : (t s : ℕ) → is_holder (holder.Promise t) (holder.Promise s) ≡ (t == s)
same_promise t s = sym (texts_ties (2 ∷ t ∷ []) (2 ∷ s ∷ [])) ∙ and_true (t == s)

-- ---- a half where this is kept of session s
length-set : (ks : List Kept) (i : ℕ) (k : Kept) → length (slice_set ks i k) ≡ length ks
length-set [] i k = refl
length-set (x ∷ ks) zero k = refl
length-set (x ∷ ks) (suc i) k = ap (λ n. suc n) (length-set ks i k)

pub session_with : (h : Half) (s : ℕ) (k : Kept) (t : ℕ) → is_session (with_kept h s k) t ≡ is_session h t
session_with h s k t = ap (λ n. nat_le 1 t && nat_le t n) (length-set h.sessions (s - 1) k)

pub kept_with : (h : Half) (s : ℕ) (k : Kept) → is_session h s ≡ true → kept_at (with_kept h s k) s ≡ k
kept_with h s k is = let lt : s - 1 < length h.sessions = grind (arith, nat_tests) in ap (λ (o : Option Kept). unwrap_or o new_kept) (get_set h.sessions (s - 1) k lt)

pub kept_beside : (h : Half) (s : ℕ) (k : Kept) (t : ℕ) → is_session h s ≡ true → is_session h t ≡ true → (t == s) ≡ false → kept_at (with_kept h s k) t ≡ kept_at h t
kept_beside h s k t is has apart =
    let differ : s - 1 ≡ t - 1 → ⊥ = λ same. not_same t s apart (let here : 1 ≤ s = grind (arith, nat_tests) in let there : 1 ≤ t = grind (arith, nat_tests) in omega (arith, here, there, same)) in
    ap (λ (o : Option Kept). unwrap_or o new_kept) (get_set_other h.sessions (s - 1) (t - 1) k differ)

-- what is kept of a session, told apart by whether it is this one
by_session : (A : Type 0) (g : Kept → A) (none : A) (h : Half) (s : ℕ) (k : Kept) (t : ℕ) → is_session h s ≡ true
    → cond (is_session (with_kept h s k) t) (g (kept_at (with_kept h s k) t)) none ≡ cond (t == s) (g k) (cond (is_session h t) (g (kept_at h t)) none)
by_session A g none h s k t is =
    ap (λ u. cond u (g (kept_at (with_kept h s k) t)) none) (session_with h s k t)
    ∙ elim (t == s) as (λ u. (t == s) ≡ u → cond (is_session h t) (g (kept_at (with_kept h s k) t)) none ≡ cond u (g k) (cond (is_session h t) (g (kept_at h t)) none)) [
      | true ↦ λ u.
          let same : t ≡ s = same_number t s u in
          ap (λ n. cond (is_session h n) (g (kept_at (with_kept h s k) n)) none) same
          ∙ ap (λ v. cond v (g (kept_at (with_kept h s k) s)) none) is
          ∙ ap g (kept_with h s k is)
      | false ↦ λ u. elim (is_session h t) as (λ v. is_session h t ≡ v → cond v (g (kept_at (with_kept h s k) t)) none ≡ cond v (g (kept_at h t)) none) [
        | true ↦ λ v. ap g (kept_beside h s k t is v u)
        | false ↦ λ _. refl
      ] refl
    ] refl

abbrev pub births_promised : Kept → List ℕ
births_promised k = option_map_or (λ (q : Promise). q.births) k.promise []

pub session_held_with : (h : Half) (s : ℕ) (k : Kept) (t : ℕ) → is_session h s ≡ true → held_in (with_kept h s k) (holder.Session t) ≡ cond (t == s) k.births (held_in h (holder.Session t))
session_held_with h s k t is = by_session (List ℕ) (λ y. y.births) [] h s k t is

pub promise_held_with : (h : Half) (s : ℕ) (k : Kept) (t : ℕ) → is_session h s ≡ true → held_in (with_kept h s k) (holder.Promise t) ≡ cond (t == s) (births_promised k) (held_in h (holder.Promise t))
promise_held_with h s k t is = by_session (List ℕ) births_promised [] h s k t is
