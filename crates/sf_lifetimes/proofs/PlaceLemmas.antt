-- Rising lists that are looked through beside each other.
use Rattle.std.proofs.Common.{◌≡◌, ℕ, zero, suc, ◌+◌, ◌<◌, ◌≤◌, ◌⊎◌, inl, inr, Bool, true, false, not, ◌&&◌, cond, List, [], ◌∷◌, ◌++◌, length, take, get_or, Option, refl, sym, ap, subst, ◌∙◌, arith, append-nil}
use Rattle.std.specs.Prelude.{◌==◌, nat_eq, nat_lt}
use Rattle.std.specs.FinMap as fin
use Rattle.std.proofs.lemmas.Bool.{le-ltb}
use Rattle.std.proofs.lemmas.Bool.Decides.{nat_tests}
use Rattle.std.proofs.lemmas.List.{map-append}
use Rattle.std.proofs.lemmas.List.Elements.{filter_more}
use Rattle.std.proofs.lemmas.List.Filters.{length-filter_more}
use Rattle.std.proofs.lemmas.List.Sums.{sum_by-take-le, length-filter}
use Rattle.sf_types.specs.declared.birth_runs.BirthRuns.{BirthRuns}
use Rattle.sf_types.specs.Inside.Births.{IsRising}
use Rattle.sf_types.proofs.NumberLemmas.{same_number, less as is_less, not_less}
use Rattle.sf_lifetimes.specs.declared.counted.Counted.{Counted}
use Rattle.sf_lifetimes.specs.Inside.Counts.{CountedMap, IsChangedAt, AreChangedBut, holders_in, runs_in, last_births, lone_births, runs_of_births}
use Rattle.sf_lifetimes.specs.Inside.Places.{AreBelow, IsPlaceOf}
use Rattle.sf_lifetimes.specs.Ledgers.{has_birth}
use Rattle.sf_lifetimes.proofs.CountLemmas.{below_at, other_number, rising_le, not_there, has_own, point_same, point_next}

-- each birth of a rising list is less than the next
rising_suc : (xs : List ℕ) (k : ℕ) → IsRising xs → suc k < length xs → get_or xs k 0 < get_or xs (suc k) 0
rising_suc [] k rising less = absurd (omega (arith, less))
rising_suc (x ∷ xs) zero rising less = below_at x xs zero rising.0 (omega (arith, less))
rising_suc (x ∷ xs) (suc k) rising less = rising_suc xs k rising.1 (omega (arith, less))

pub rising_next : (xs : List ℕ) (k : ℕ) → IsRising xs → k + 1 < length xs → get_or xs k 0 < get_or xs (k + 1) 0
rising_next xs k rising less =
    let next : suc k ≡ k + 1 = omega arith in
    subst (λ n. get_or xs k 0 < get_or xs n 0) next (rising_suc xs k rising (omega (arith, less)))

-- what is below a birth is below the next
pub below_next : (others births : List ℕ) (at k : ℕ) → IsRising births → AreBelow others at (get_or births k 0) → k + 1 < length births → AreBelow others at (get_or births (k + 1) 0)
below_next others births at k rising below less i before = let lt = below i before in omega (arith, lt, rising_next births k rising less)

-- a birth stands in a rising list where it would go, or nowhere
pub stands_where : (xs : List ℕ) (at x : ℕ) → IsRising xs → IsPlaceOf xs at x → (at < length xs → (get_or xs at 0 == x) ≡ false) → has_birth xs x ≡ false
stands_where xs at x rising place apart = not_there xs x (λ k within. by_side k within (before_or_not k))
  where
    before_or_not : (k : ℕ) → (k < at) ⊎ (at ≤ k)
    before_or_not k = elim (nat_lt k at) as (λ t. nat_lt k at ≡ t → (k < at) ⊎ (at ≤ k)) [ true ↦ λ t. inl (is_less k at t) | false ↦ λ t. inr (not_less k at t) ] refl

    by_side : (k : ℕ) → k < length xs → (k < at) ⊎ (at ≤ k) → (x == get_or xs k 0) ≡ false
    by_side k within (inl b) = other_number (get_or xs k 0) x (place.below k b)
    by_side k within (inr a) =
        let here = place.not_below (omega (arith, a, within)) in
        let le = rising_le xs rising at k a within in
        let other = apart (omega (arith, a, within)) in
        grind (arith, nat_tests, here, le, other)

pub stands_there : (xs : List ℕ) (at x : ℕ) → IsRising xs → IsPlaceOf xs at x → at < length xs → nat_eq (get_or xs at 0) x ≡ has_birth xs x
stands_there xs at x rising place within = by_test (nat_eq (get_or xs at 0) x) refl
  where
    by_test : (t : Bool) → nat_eq (get_or xs at 0) x ≡ t → t ≡ has_birth xs x
    by_test true is = sym (ap (has_birth xs) (sym (same_number (get_or xs at 0) x is)) ∙ has_own xs at within)
    by_test false is = sym (stands_where xs at x rising place (λ any. is))

pub stands_behind : (xs : List ℕ) (at x : ℕ) → IsRising xs → IsPlaceOf xs at x → length xs ≤ at → nat_lt at (length xs) ≡ has_birth xs x
stands_behind xs at x rising place past = le-ltb at (length xs) past ∙ sym (stands_where xs at x rising place (λ within. absurd (omega (arith, within, past))))

-- one birth more is below
pub below_more : (xs : List ℕ) (at x : ℕ) → AreBelow xs at x → get_or xs at 0 < x → AreBelow xs (at + 1) x
below_more xs at x below less k within = by_test (nat_lt k at) refl
  where
    by_test : (t : Bool) → nat_lt k at ≡ t → get_or xs k 0 < x
    by_test true is = below k (is_less k at is)
    by_test false is = let same : k ≡ at = omega (arith, within, not_less k at is) in omega (arith, ap (λ n. get_or xs n 0) same, less)

-- the next birth of a list is changed, but where the other list has it
abbrev but_others : (Option Counted → Option Counted) → List ℕ → ℕ → Option Counted → Option Counted
but_others change others q x = cond (has_birth others q) x (change x)

pub untouched_but : (change : Option Counted → Option Counted) (m n : CountedMap) (xs others : List ℕ) (k : ℕ) → IsRising xs → k < length xs → AreChangedBut change m (take k xs) others n → fin.get n (get_or xs k 0) ≡ fin.get m (get_or xs k 0)
untouched_but change m n xs others k rising within before = point_same (but_others change others) (fin.get m) (fin.get n) xs k rising within before

pub changed_but : (change : Option Counted → Option Counted) (m n p : CountedMap) (xs others : List ℕ) (k : ℕ) → IsRising xs → k < length xs → AreChangedBut change m (take k xs) others n → has_birth others (get_or xs k 0) ≡ false → IsChangedAt change n (get_or xs k 0) p
    → AreChangedBut change m (take (k + 1) xs) others p
changed_but change m n p xs others k rising within before apart now =
    let b = get_or xs k 0 in
    point_next (but_others change others) (fin.get m) (fin.get n) (fin.get p) xs k rising within before
    (λ q. now q ∙ ap (λ t. cond (q == b) (cond t (fin.get n b) (change (fin.get n b))) (fin.get n q)) (sym apart))

left_alone : (n : CountedMap) (b q : ℕ) → fin.get n q ≡ cond (q == b) (fin.get n b) (fin.get n q)
left_alone n b q = elim (q == b) as (λ t. (q == b) ≡ t → fin.get n q ≡ cond t (fin.get n b) (fin.get n q)) [
  | true ↦ λ t. ap (λ x. fin.get n x) (same_number q b t)
  | false ↦ λ t. refl
] refl

pub unchanged_but : (change : Option Counted → Option Counted) (m n : CountedMap) (xs others : List ℕ) (k : ℕ) → IsRising xs → k < length xs → AreChangedBut change m (take k xs) others n → has_birth others (get_or xs k 0) ≡ true → AreChangedBut change m (take (k + 1) xs) others n
unchanged_but change m n xs others k rising within before there =
    let b = get_or xs k 0 in
    point_next (but_others change others) (fin.get m) (fin.get n) (fin.get n) xs k rising within before
    (λ q. left_alone n b q ∙ ap (λ t. cond (q == b) (cond t (fin.get n b) (change (fin.get n b))) (fin.get n q)) (sym there))

-- the births that one holder holds, one more
lone_next : (m : CountedMap) (more xs : List ℕ) (k : ℕ) → k < length xs → lone_births m more (take (k + 1) xs) ≡ lone_births m more (take k xs) ++ lone_births m more (get_or xs k 0 ∷ [])
lone_next m more xs k within = filter_more (λ b. (holders_in (fin.get m b) + cond (has_birth more b) 1 0) == 1) xs k 0 within

alone : (m : CountedMap) (more : List ℕ) (b : ℕ) → has_birth more b ≡ false → lone_births m more (b ∷ []) ≡ last_births m (b ∷ [])
alone m more b apart =
    let none : holders_in (fin.get m b) + 0 ≡ holders_in (fin.get m b) = omega arith in
    ap (λ t. cond ((holders_in (fin.get m b) + cond t 1 0) == 1) (b ∷ []) []) apart ∙ ap (λ n. cond (n == 1) (b ∷ []) []) none

held_twice : (m : CountedMap) (more : List ℕ) (b : ℕ) → has_birth more b ≡ true → 1 ≤ holders_in (fin.get m b) → lone_births m more (b ∷ []) ≡ []
held_twice m more b there held =
    let other : (holders_in (fin.get m b) + 1 == 1) ≡ false = grind (arith, nat_tests, held) in
    ap (λ t. cond ((holders_in (fin.get m b) + cond t 1 0) == 1) (b ∷ []) []) there ∙ ap (λ t. cond t (b ∷ []) []) other

-- a birth that the other list hasn't
pub lone_apart : (m : CountedMap) (more xs : List ℕ) (k : ℕ) → k < length xs → has_birth more (get_or xs k 0) ≡ false → lone_births m more (take (k + 1) xs) ≡ lone_births m more (take k xs) ++ last_births m (get_or xs k 0 ∷ [])
lone_apart m more xs k within apart = lone_next m more xs k within ∙ ap (λ (l : List ℕ). lone_births m more (take k xs) ++ l) (alone m more (get_or xs k 0) apart)

-- a birth that the other list has
pub lone_there : (m : CountedMap) (more xs : List ℕ) (k : ℕ) → k < length xs → has_birth more (get_or xs k 0) ≡ true → 1 ≤ holders_in (fin.get m (get_or xs k 0)) → lone_births m more (take (k + 1) xs) ≡ lone_births m more (take k xs)
lone_there m more xs k within there held =
    lone_next m more xs k within ∙ ap (λ (l : List ℕ). lone_births m more (take k xs) ++ l) (held_twice m more (get_or xs k 0) there held) ∙ append-nil (lone_births m more (take k xs))

pub lone_le : (m : CountedMap) (more xs : List ℕ) (k : ℕ) → length (lone_births m more (take k xs)) ≤ length (lone_births m more xs)
lone_le m more xs k =
    let p : ℕ → Bool = λ b. (holders_in (fin.get m b) + cond (has_birth more b) 1 0) == 1 in
    omega (arith, length-filter p (take k xs), length-filter p xs, sum_by-take-le (λ x. cond (p x) 1 0) xs k)

-- the places that they give
pub runs_apart : (m : CountedMap) (more xs : List ℕ) (k : ℕ) → k < length xs → has_birth more (get_or xs k 0) ≡ false
    → runs_of_births m (lone_births m more (take (k + 1) xs)) ≡ runs_of_births m (lone_births m more (take k xs)) ++ runs_of_births m (last_births m (get_or xs k 0 ∷ []))
runs_apart m more xs k within apart =
    ap (runs_of_births m) (lone_apart m more xs k within apart)
    ∙ map-append {B = BirthRuns} (λ q. record { birth = q; runs = runs_in (fin.get m q) }) (lone_births m more (take k xs)) (last_births m (get_or xs k 0 ∷ []))

pub lone_count : (m : CountedMap) (more xs : List ℕ) (k : ℕ) → k < length xs → length (lone_births m more (take (k + 1) xs)) ≡ length (lone_births m more (take k xs)) + cond ((holders_in (fin.get m (get_or xs k 0)) + cond (has_birth more (get_or xs k 0)) 1 0) == 1) 1 0
lone_count m more xs k within = length-filter_more (λ b. (holders_in (fin.get m b) + cond (has_birth more b) 1 0) == 1) xs k 0 within

-- a birth that is held once more isn't alone
pub lone_or_not : (holders : ℕ) (once_more : Bool) → 1 ≤ holders → (not once_more && (holders == 1)) ≡ ((holders + cond once_more 1 0) == 1)
lone_or_not holders true held = let other : (holders + 1 == 1) ≡ false = grind (arith, nat_tests, held) in sym other
lone_or_not holders false held = let none : holders + 0 ≡ holders = omega arith in ap (λ n. n == 1) (sym none)
