-- What is freed as holders are counted off.
use Rattle.std.proofs.Common.{◌≡◌, ℕ, zero, suc, ◌+◌, ◌-◌, ◌≤◌, ◌<◌, true, false, cond, nat_lt, List, [], ◌∷◌, ◌++◌, length, take, get_or, Option, Some, None, refl, sym, ap, subst, ◌∙◌, arith}
use Rattle.std.specs.Prelude.{◌==◌, ◌||◌, ◌≢◌, not, All, AllPairs}
use Rattle.std.specs.List.{AllByRecursion}
use Rattle.std.specs.Ordering.{nat_cmp, eq_by_cmp}
use Rattle.std.specs.Option.{unwrap_or}
use Rattle.std.specs.Cmp.{nat_cmp_total}
use Rattle.std.specs.FinMap as fin
use Rattle.std.specs.FinMap.{nat_cmp-IsAntisymmetric, entries, entries_sorted, get-entries, get-remove, get-retain_keys}
use Rattle.std.proofs.lemmas.Bool.Decides.{nat_tests}
use Rattle.std.proofs.lemmas.List.Elements.{recursion_from_All}
use Rattle.std.proofs.lemmas.List.Quantifiers.{all_pairs_push}
use Rattle.std.proofs.lemmas.List.Sums.{sum_by-append, sum_by-cons, sum_by_more, sum_by-take-le}
use Rattle.sf_types.specs.declared.holder.Holder.{Holder}
use Rattle.sf_types.specs.Inside.Holders.{holder_cmp, holder_cmp_total, holder_cmp-IsAntisymmetric}
use Rattle.sf_types.specs.Space.BlockRuns.{blocks_in}
use Rattle.sf_types.proofs.NameMapLemmas.{equal}
use Rattle.sf_types.proofs.NumberLemmas.{same_number}
use Rattle.sf_lifetimes.specs.declared.counted.Counted.{Counted}
use Rattle.sf_lifetimes.specs.declared.tally.Tally.{Tally}
use Rattle.sf_lifetimes.specs.Ledgers.{Holdings, has_birth, held_by, number_of_holders, is_live, live_places, without_holders, freed_by}
use Rattle.sf_lifetimes.specs.Inside.Counts.{CountedMap, AreHeld, holders_in, runs_in, live_runs, live_in, live_sum}
use Rattle.sf_lifetimes.specs.Inside.Counted.{places_in, IsCountedBy}
use Rattle.sf_lifetimes.specs.Inside.Tallies.{Tallies, freed_in, freed_sum, left_of, counted_off, tally_of, number_among}
use Rattle.sf_lifetimes.specs.Inside.Bounds.{IsBounded, freed_at, live_at}
use Rattle.sf_lifetimes.proofs.MapSumLemmas.{weight, same_sum, sum-remove, sum-le, weight-le}
use Rattle.sf_lifetimes.proofs.LedgerLemmas.{size, get_live, live_is, holds, weight_held}

-- a birth with a holder left has freed nothing
pub none_freed : (x : Option Tally) (holders : ℕ) → 1 ≤ left_of x holders → weight freed_in x ≡ 0
none_freed None holders some = refl
none_freed (Some t) holders some = let more : (t.left == 0) ≡ false = grind (arith, nat_tests, some) in ap (λ b. cond b t.blocks 0) more

at_freed : (x : Option Tally) → weight freed_in x ≡ freed_at x
at_freed None = refl
at_freed (Some t) = refl

at_live : (x : Option Counted) → weight live_in x ≡ live_at x
at_live None = refl
at_live (Some c) = refl

-- ---- what is freed is live
pub freed_few : (t : Tallies) (m : CountedMap) → IsBounded t m → freed_sum t ≤ live_sum m
freed_few t m bounded =
    sum-le nat_cmp nat_cmp_total nat_cmp-IsAntisymmetric freed_in live_in (entries t) m (entries_sorted t)
    (λ q. omega (arith, bounded q, ap (weight freed_in) (get-entries t q), at_freed (fin.get t q), at_live (fin.get m q)))

has_take : (xs : List ℕ) (k q : ℕ) → has_birth (take k xs) q ≡ true → has_birth xs q ≡ true
has_take [] zero q is = is
has_take [] (suc k) q is = is
has_take (x ∷ xs) zero q is = absurd cc
has_take (x ∷ xs) (suc k) q is =
    elim (q == x) as (λ t. (t || has_birth (take k xs) q) ≡ true → (t || has_birth xs q) ≡ true) [ true ↦ λ _. refl | false ↦ λ rest. has_take xs k q rest ] is

freed_off : (x : Option Counted) (t : Option Tally) → 1 ≤ holders_in x → freed_at (counted_off x t) ≤ live_at x
freed_off None t some = absurd (omega (arith, some))
freed_off (Some c) t some =
    let more : (c.holders == 0) ≡ false = grind (arith, nat_tests, some) in
    let size = length (blocks_in c.runs) in
    omega (arith, ap {B = ℕ} (λ b. cond b 0 size) more, elim (left_of t c.holders - 1 == 0) as (λ b. cond b size 0 ≤ size) [ true ↦ omega arith | false ↦ omega arith ])

pub off_bounded : (t s : Tallies) (m : CountedMap) (births : List ℕ) (k : ℕ) → AreHeld m births → IsBounded t m → ((q : ℕ) → fin.get s q ≡ cond (has_birth (take k births) q) (counted_off (fin.get m q) (fin.get t q)) (fin.get t q)) → IsBounded s m
off_bounded t s m births k held bounded counted q =
    subst (λ x. freed_at x ≤ live_at (fin.get m q)) (sym (counted q))
    (elim (has_birth (take k births) q) as (λ b. has_birth (take k births) q ≡ b → freed_at (cond b (counted_off (fin.get m q) (fin.get t q)) (fin.get t q)) ≤ live_at (fin.get m q)) [
      | true ↦ λ is. freed_off (fin.get m q) (fin.get t q) (held q (has_take births k q is))
      | false ↦ λ _. bounded q
    ] refl)

live_size : (x : Option Counted) → 1 ≤ holders_in x → length (blocks_in (runs_in x)) ≤ live_at x
live_size None some = absurd (omega (arith, some))
live_size (Some c) some = let more : (c.holders == 0) ≡ false = grind (arith, nat_tests, some) in omega (arith, ap {B = ℕ} (λ b. cond b 0 (length (blocks_in c.runs))) more)

pub size_few : (m : CountedMap) (b : ℕ) → 1 ≤ holders_in (fin.get m b) → length (blocks_in (runs_in (fin.get m b))) ≤ live_sum m
size_few m b some = omega (arith, live_size (fin.get m b) some, at_live (fin.get m b), weight-le nat_cmp nat_cmp_total nat_cmp-IsAntisymmetric live_in m b)

-- ---- one holder more is counted off
pub off_more : (x : Option Counted) (a : ℕ) → counted_off x (tally_of x a) ≡ tally_of x (a + 1)
off_more x a =
    let size = length (blocks_in (runs_in x)) in
    let tally : ℕ → Option Tally = λ k. Some (record { left = k; blocks = size }) in
    let some : (a + 1 == 0) ≡ false = grind (arith, nat_tests) in
    elim (a == 0) as (λ t. (a == 0) ≡ t → counted_off x (cond t None (tally (holders_in x - a))) ≡ tally (holders_in x - (a + 1))) [
      | true ↦ λ t. let none : a ≡ 0 = same_number a 0 t in let same : holders_in x - 1 ≡ holders_in x - (a + 1) = omega (arith, none) in ap tally same
      | false ↦ λ t. let same : holders_in x - a - 1 ≡ holders_in x - (a + 1) = omega arith in ap tally same
    ] refl
    ∙ ap (λ b. cond b None (tally (holders_in x - (a + 1)))) (sym some)

pub tally_more : (h : Holdings) (holders : List Holder) (k : ℕ) (d : Holder) (x : Option Counted) (q : ℕ) (t u : Option Tally) → k < length holders
    → t ≡ tally_of x (number_among h (take k holders) q)
    → u ≡ cond (has_birth (held_by h (get_or holders k d)) q) (counted_off x t) t
    → u ≡ tally_of x (number_among h (take (k + 1) holders) q)
tally_more h holders k d x q t u less before now =
    let a = number_among h (take k holders) q in
    now
    ∙ ap (λ y. cond (has_birth (held_by h (get_or holders k d)) q) (counted_off x y) y) before
    ∙ elim (has_birth (held_by h (get_or holders k d)) q) as (λ b. cond b (counted_off x (tally_of x a)) (tally_of x a) ≡ tally_of x (a + cond b 1 0)) [
      | true ↦ off_more x a
      | false ↦ let same : a ≡ a + 0 = omega arith in ap (tally_of x) same
    ]
    ∙ ap (tally_of x) (sym (sum_by_more (λ holder. cond (has_birth (held_by h holder) q) 1 0) holders k d less))

-- ---- the holders among these and the others
head_apart : (h : Holder) (hs : List Holder) → AllPairs (λ a b. a ≢ b) (h ∷ hs) → AllByRecursion (λ b. h ≢ b) hs
head_apart h hs once = recursion_from_All (λ b. h ≢ b) hs (λ j d less. once 0 (suc j) d (omega arith) (omega (arith, less)))

tail_apart : (h : Holder) (hs : List Holder) → AllPairs (λ a b. a ≢ b) (h ∷ hs) → AllPairs (λ a b. a ≢ b) hs
tail_apart h hs once i j d before less = once (suc i) (suc j) d (omega (arith, before)) (omega (arith, less))

get_without : (holdings : Holdings) (h : Holder) (hs : List Holder) → AllByRecursion (λ b. h ≢ b) hs → fin.get (without_holders holdings hs) h ≡ fin.get holdings h
get_without holdings h [] apart = refl
get_without holdings h (x ∷ hs) apart =
    get-remove holder_cmp_total (without_holders holdings hs) x h
    ∙ elim (eq_by_cmp holder_cmp h x) as (λ t. eq_by_cmp holder_cmp h x ≡ t → cond t None (fin.get (without_holders holdings hs) h) ≡ fin.get (without_holders holdings hs) h) [
      | true ↦ λ t. absurd (apart.0 (holder_cmp-IsAntisymmetric h x (equal _ t)))
      | false ↦ λ _. refl
    ] refl
    ∙ get_without holdings h hs apart.1

pub among_and_others : (holdings : Holdings) (hs : List Holder) (q : ℕ) → AllPairs (λ a b. a ≢ b) hs → number_among holdings hs q + number_of_holders q (without_holders holdings hs) ≡ number_of_holders q holdings
among_and_others holdings [] q once = omega arith
among_and_others holdings (h ∷ hs) q once =
    let m = without_holders holdings hs in
    omega (arith, among_and_others holdings hs q (tail_apart h hs once), sum_by-cons (λ holder. cond (has_birth (held_by holdings holder) q) 1 0) h hs, sum-remove holder_cmp holder_cmp_total holder_cmp-IsAntisymmetric (holds q) m h, weight_held m h q, ap (λ x. holds q (unwrap_or x [])) (get_without holdings h hs (head_apart h hs once)))

pub among_few : (holdings : Holdings) (hs : List Holder) (k q : ℕ) → AllPairs (λ a b. a ≢ b) hs → number_among holdings (take k hs) q ≤ number_of_holders q holdings
among_few holdings hs k q once = omega (arith, among_and_others holdings hs q once, sum_by-take-le (λ holder. cond (has_birth (held_by holdings holder) q) 1 0) hs k)

pub tally_bounded : (x : Option Counted) (a : ℕ) → a ≤ holders_in x → freed_at (tally_of x a) ≤ live_at x
tally_bounded x zero le = omega arith
tally_bounded None (suc a) le = absurd (omega (arith, le))
tally_bounded (Some c) (suc a) le =
    let more : (c.holders == 0) ≡ false = grind (arith, nat_tests, le) in
    let some : (suc a == 0) ≡ false = grind (arith, nat_tests) in
    let size = length (blocks_in c.runs) in
    subst (λ b. freed_at (cond b None (Some (record { left = c.holders - suc a; blocks = size }))) ≤ live_at (Some c)) (sym some)
    (omega (arith, ap {B = ℕ} (λ b. cond b 0 size) more, elim (c.holders - suc a == 0) as (λ b. cond b size 0 ≤ size) [ true ↦ omega arith | false ↦ omega arith ]))

pub tally_left : (x : Option Counted) (a : ℕ) → a + 1 ≤ holders_in x → 1 ≤ left_of (tally_of x a) (holders_in x)
tally_left x a le =
    elim (a == 0) as (λ t. 1 ≤ left_of (cond t None (Some (record { left = holders_in x - a; blocks = length (blocks_in (runs_in x)) }))) (holders_in x)) [ true ↦ omega (arith, le) | false ↦ omega (arith, le) ]

pub among_next : (h : Holdings) (holders : List Holder) (k : ℕ) (d : Holder) (q : ℕ) → k < length holders → AllPairs (λ a b. a ≢ b) holders → has_birth (held_by h (get_or holders k d)) q ≡ true → number_among h (take k holders) q + 1 ≤ number_of_holders q h
among_next h holders k d q less once is =
    omega (arith, among_few h holders (k + 1) q once, sum_by_more (λ holder. cond (has_birth (held_by h holder) q) 1 0) holders k d less, ap {B = ℕ} (λ b. cond b 1 0) is)

-- ---- the blocks that holders free
freed_point : (x : Option Counted) (a others : ℕ) → a + others ≡ holders_in x → weight freed_in (tally_of x a) ≡ weight size (cond (not (not (others == 0))) (live_runs x) None)
freed_point None zero others both = elim (others == 0) as (λ t. 0 ≡ weight size (cond (not (not t)) None None)) [ true ↦ refl | false ↦ refl ]
freed_point None (suc a) others both = absurd (omega (arith, both))
freed_point (Some c) zero others both =
    let same : others ≡ c.holders = omega (arith, both) in
    elim (c.holders == 0) as (λ t. 0 ≡ weight size (cond (not (not t)) (cond t None (Some c.runs)) None)) [ true ↦ refl | false ↦ refl ]
    ∙ ap (λ n. weight size (cond (not (not (n == 0))) (cond (c.holders == 0) None (Some c.runs)) None)) (sym same)
freed_point (Some c) (suc a) others both =
    let some : (suc a == 0) ≡ false = grind (arith, nat_tests) in
    let held : (c.holders == 0) ≡ false = grind (arith, nat_tests, both) in
    let left : c.holders - suc a ≡ others = omega (arith, both) in
    ap (λ b. weight freed_in (cond b None (Some (record { left = c.holders - suc a; blocks = size c.runs })))) some
    ∙ ap (λ k. cond (k == 0) (size c.runs) 0) left
    ∙ elim (others == 0) as (λ t. cond t (size c.runs) 0 ≡ weight size (cond (not (not t)) (Some c.runs) None)) [ true ↦ refl | false ↦ refl ]
    ∙ ap (λ b. weight size (cond (not (not (others == 0))) (cond b None (Some c.runs)) None)) (sym held)

pub freed_is : (t : Tallies) (m : CountedMap) (h : Holdings) (holders : List Holder) → IsCountedBy m h → AllPairs (λ a b. a ≢ b) holders → ((q : ℕ) → fin.get t q ≡ tally_of (fin.get m q) (number_among h holders q))
    → freed_sum t ≡ freed_by (record { places = places_in m; holdings = h }) holders
freed_is t m h holders counted once is =
    let live = live_places (record { places = places_in m; holdings = h }) in
    let others = without_holders h holders in
    same_sum nat_cmp nat_cmp_total nat_cmp-IsAntisymmetric freed_in size t (fin.retain_keys live (λ b. not (is_live others b))) (λ q.
    ap (weight freed_in) (is q)
    ∙ freed_point (fin.get m q) (number_among h holders q) (number_of_holders q others) (among_and_others h holders q once ∙ sym (counted q))
    ∙ ap (λ x. weight size (cond (not (is_live others q)) x None)) (sym (get_live m q) ∙ ap (λ places. fin.get places q) (live_is m h counted))
    ∙ ap (weight size) (sym (get-retain_keys live (λ b. not (is_live others b)) q (λ x same. ap (λ b. not (is_live others b)) (sym (nat_cmp-IsAntisymmetric q x same))))))

-- ---- the holders of a birth that are left
pub others_left : (x : Option Counted) (a others : ℕ) → a + others ≡ holders_in x → left_of (tally_of x a) (holders_in x) ≡ others
others_left x a others both =
    elim (a == 0) as (λ t. (a == 0) ≡ t → left_of (cond t None (Some (record { left = holders_in x - a; blocks = length (blocks_in (runs_in x)) }))) (holders_in x) ≡ others) [
      | true ↦ λ is. let none : a ≡ 0 = same_number a 0 is in omega (arith, none, both)
      | false ↦ λ _. omega (arith, both)
    ] refl

pub some_number : (n : ℕ) → nat_lt 0 n ≡ not (n == 0)
some_number zero = refl
some_number (suc n) = grind (arith, nat_tests)

-- ---- one holder more is given up
pub given_more : (h : Holdings) (holders : List Holder) (d : Holder) (x : Option Counted) (q : ℕ) (t u : Option Tally) → t ≡ tally_of x (number_among h holders q) → u ≡ cond (has_birth (held_by h d) q) (counted_off x t) t
    → u ≡ tally_of x (number_among h (holders ++ d ∷ []) q)
given_more h holders d x q t u before now =
    let a = number_among h holders q in
    now
    ∙ ap (λ y. cond (has_birth (held_by h d) q) (counted_off x y) y) before
    ∙ elim (has_birth (held_by h d) q) as (λ b. cond b (counted_off x (tally_of x a)) (tally_of x a) ≡ tally_of x (a + cond b 1 0)) [
      | true ↦ off_more x a
      | false ↦ let same : a ≡ a + 0 = omega arith in ap (tally_of x) same
    ]
    ∙ (let sum : a + cond (has_birth (held_by h d) q) 1 0 ≡ number_among h (holders ++ d ∷ []) q = omega (arith, sum_by-append (λ holder. cond (has_birth (held_by h holder) q) 1 0) holders (d ∷ [])) in ap (tally_of x) sum)

pub given_once : (holders : List Holder) (d : Holder) → AllPairs (λ a b. a ≢ b) holders → All (λ other. other ≢ d) holders → AllPairs (λ a b. a ≢ b) (holders ++ d ∷ [])
given_once holders d once new = all_pairs_push (λ a b. a ≢ b) holders d once new

pub given_few : (h : Holdings) (holders : List Holder) (d : Holder) (q : ℕ) → AllPairs (λ a b. a ≢ b) (holders ++ d ∷ []) → number_among h holders q + cond (has_birth (held_by h d) q) 1 0 ≤ number_of_holders q h
given_few h holders d q once =
    omega (arith, among_and_others h (holders ++ d ∷ []) q once, sum_by-append (λ holder. cond (has_birth (held_by h holder) q) 1 0) holders (d ∷ []))
