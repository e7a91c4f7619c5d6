-- Whether a birth is one of a rising list.
use Rattle.std.proofs.Common.{◌≡◌, ℕ, zero, suc, ◌<◌, ◌≤◌, Bool, true, false, List, [], ◌∷◌, length, get_or, refl, sym, ap, ◌∙◌, arith, Result, Ok, Err}
use Rattle.std.specs.Result.{MatchResult, is_ok}
use Rattle.std.specs.Prelude.{◌==◌, ◌||◌, nat_lt}
use Rattle.sf_types.proofs.NumberLemmas.{own_number, other_number, less, not_less}
use Rattle.sf_lifetimes.specs.Ledgers.{has_birth}

pub there_at : (bs : List ℕ) (at b : ℕ) → at < length bs → get_or bs at 0 ≡ b → has_birth bs b ≡ true
there_at [] at b below is = absurd (omega (arith, below))
there_at (c ∷ bs) zero b below is = ap (λ n. (b == n) || has_birth bs b) is ∙ ap (λ t. t || has_birth bs b) (own_number b)
there_at (c ∷ bs) (suc at) b below is = either (b == c) (has_birth bs b) (there_at bs at b (omega (arith, below)) is)
  where
    either : (t u : Bool) → u ≡ true → (t || u) ≡ true
    either true u is = refl
    either false u is = is

pub nowhere : (bs : List ℕ) (b : ℕ) → ((k : ℕ) → k < length bs → get_or bs k 0 ≡ b → ⊥) → has_birth bs b ≡ false
nowhere [] b none = refl
nowhere (c ∷ bs) b none =
    ap (λ t. t || has_birth bs b) (other_number b c (λ same. none 0 (omega arith) (sym same)))
    ∙ nowhere bs b (λ k below is. none (suc k) (omega (arith, below)) is)

-- what a search among rising births finds
pub found_by_search : (bs : List ℕ) (b : ℕ) (r : Result ℕ ℕ)
    → MatchResult r (λ i. (i < length bs) × (get_or bs i 0 ≡ b)) (λ i. (i ≤ length bs) × ((k : ℕ) → k < i → get_or bs k 0 < b) × ((k : ℕ) → i ≤ k → k < length bs → b < get_or bs k 0))
    → is_ok r ≡ has_birth bs b
found_by_search bs b (Ok i) found = sym (there_at bs i b found.0 found.1)
found_by_search bs b (Err i) gap =
    sym (nowhere bs b (λ k below is. elim (nat_lt k i) as (λ t. nat_lt k i ≡ t → ⊥) [
      | true ↦ λ t. let before : k < i = less k i t in omega (arith, gap.1 k before, is)
      | false ↦ λ t. let past : i ≤ k = not_less k i t in omega (arith, gap.2 k past below, is)
    ] refl))
