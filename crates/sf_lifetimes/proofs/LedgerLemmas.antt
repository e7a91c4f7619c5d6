-- What counts say of a ledger.
use Rattle.std.proofs.Common.{◌≡◌, ℕ, ◌+◌, ◌-◌, ◌^◌, ◌≤◌, ◌<◌, Bool, true, false, cond, List, [], ◌∷◌, length, map, Option, Some, None, refl, sym, ap, subst, ◌∙◌, arith}
use Rattle.std.specs.Prelude.{◌==◌, ◌&&◌, ◌||◌, not, T, is_some, IsSome, nat_lt, ◌≢◌, All, AllPairs, Contains, flat_map}
use Rattle.std.specs.List.{filter, sum_by, count_by, AllByRecursion}
use Rattle.std.specs.Option.{unwrap_or, option_map}
use Rattle.std.specs.Ordering.{nat_cmp, is_lt, eq_by_cmp}
use Rattle.std.specs.Cmp.{nat_cmp_total, nat_eq_equiv}
use Rattle.std.specs.FinMap as fin
use Rattle.std.specs.FinMap.{nat_cmp-IsAntisymmetric, same_map, entries, entries_sorted, entries-from_sorted, get-entries, get-from_sorted, get-retain_keys, get-empty, get-insert}
use Rattle.std.specs.FinMap.Entries.{find, is_sorted, below_all}
use Rattle.std.proofs.lemmas.Bool.Decides.{nat_tests}
use Rattle.std.proofs.lemmas.List.Elements.{recursion_from_All}
use Rattle.std.proofs.lemmas.List.Sums.{count_by-le-length, sum_by-cons, sum_by-append}
use Rattle.std.proofs.lemmas.Map.Views.{Contains-from_any, exact_unsigned_eq}
use Rattle.std.proofs.lemmas.Map.Made.{is_member-filter}
use Rattle.std.proofs.lemmas.Map.Entries.{length-values_of}
use Rattle.sf_types.specs.declared.birth_runs.BirthRuns.{BirthRuns}
use Rattle.sf_types.specs.declared.holder.Holder.{Holder}
use Rattle.sf_types.specs.declared.run.Run.{Run}
use Rattle.sf_types.specs.Inside.Holders.{holder_cmp, holder_cmp_total, holder_cmp-IsAntisymmetric}
use Rattle.sf_types.specs.Space.BlockRuns.{blocks_in}
use Rattle.sf_types.proofs.NameMapLemmas.{equal}
use Rattle.sf_types.proofs.NumberLemmas.{same_number, own_number}
use Rattle.sf_lifetimes.specs.declared.counted.Counted.{Counted}
use Rattle.sf_lifetimes.specs.Ledgers.{Places, Holdings, has_birth, held_by, number_of_holders, live_places, waiting_places, with_births, with_holding, unheld_births, unheld_places, live_blocks, number_of_blocks, place_of, occupied_blocks, IsNewPlace}
use Rattle.sf_lifetimes.specs.Inside.Counts.{CountedMap, AreExchanged, AreFew, AreHeld, with_one_more, with_one_fewer, holders_in, runs_in, live_runs, lone_births, runs_of_births, live_in, live_sum, without_holder, times, IsFree}
use Rattle.sf_lifetimes.specs.Inside.Counted.{places_in, live_places_in, waiting_places_in, IsCountedBy}
use Rattle.sf_lifetimes.proofs.MapSumLemmas.{weight, same_sum, sum-insert, sum-remove, no_values}
use Rattle.sf_lifetimes.proofs.CountLemmas.{with_holders, named_once, none_counted_in, stands_in}
use Rattle.sf_lifetimes.proofs.ExchangeLemmas.{raised_at, exchanged_count}

-- ---- the places without the counts
abbrev pub uncounted : ℕ × Counted → ℕ × List Run
uncounted = λ e. (e.0, e.1.runs)

abbrev pub runs_at : Option Counted → Option (List Run)
runs_at x = option_map (λ c. c.runs) x

module _ {X Y : Type 0} (g : X → Y) where
  below_values : (x : ℕ) (es : List (ℕ × X)) → below_all nat_cmp x (map (λ e. (e.0, g e.1)) es) ≡ below_all nat_cmp x es
  below_values x [] = refl
  below_values x (e ∷ es) = ap (λ t. is_lt (nat_cmp x e.0) && t) (below_values x es)

  pub sorted_values : (es : List (ℕ × X)) → is_sorted nat_cmp (map (λ e. (e.0, g e.1)) es) ≡ is_sorted nat_cmp es
  sorted_values [] = refl
  sorted_values (e ∷ es) =
      ap (λ t. t && is_sorted nat_cmp (map (λ (e : ℕ × X). (e.0, g e.1)) es)) (below_values e.0 es) ∙ ap (λ t. below_all nat_cmp e.0 es && t) (sorted_values es)

  pub find_values : (q : ℕ) (es : List (ℕ × X)) → find nat_cmp q (map (λ e. (e.0, g e.1)) es) ≡ option_map g (find nat_cmp q es)
  find_values q [] = refl
  find_values q (e ∷ es) =
      elim (eq_by_cmp nat_cmp q e.0) as (λ t. cond t (Some (g e.1)) (find nat_cmp q (map (λ (e : ℕ × X). (e.0, g e.1)) es)) ≡ option_map g (cond t (Some e.1) (find nat_cmp q es))) [
        | true ↦ refl
        | false ↦ find_values q es
      ]

mapped_sorted : (m : CountedMap) → T (is_sorted nat_cmp (map uncounted (entries m)))
mapped_sorted m = subst T (sym (sorted_values (λ (c : Counted). c.runs) (entries m))) (entries_sorted m)

pub entries_places : (m : CountedMap) → entries (places_in m) ≡ map uncounted (entries m)
entries_places m = entries-from_sorted nat_cmp (map uncounted (entries m)) (mapped_sorted m)

pub get_places : (m : CountedMap) (q : ℕ) → fin.get (places_in m) q ≡ runs_at (fin.get m q)
get_places m q = get-from_sorted nat_cmp (map uncounted (entries m)) q (mapped_sorted m) ∙ find_values (λ (c : Counted). c.runs) q (entries m) ∙ ap runs_at (sym (get-entries m q))

pub no_places : places_in fin.empty ≡ fin.empty
no_places = same_map nat_cmp_total nat_cmp-IsAntisymmetric _ _ (λ q. get_places fin.empty q ∙ ap runs_at (get-empty nat_cmp q) ∙ sym (get-empty nat_cmp q))

pub none_counted_by : IsCountedBy fin.empty fin.empty
none_counted_by b = ap holders_in (get-empty nat_cmp b) ∙ sym (ap (count_by (λ births. has_birth births b)) (no_values holder_cmp))

-- ---- the number of holders
abbrev pub holds : ℕ → List ℕ → ℕ
holds b births = cond (has_birth births b) 1 0

pub weight_held : (holdings : Holdings) (holder : Holder) (b : ℕ) → weight (holds b) (fin.get holdings holder) ≡ holds b (held_by holdings holder)
weight_held holdings holder b = elim (fin.get holdings holder) as (λ x. weight (holds b) x ≡ holds b (unwrap_or x [])) [ None ↦ refl | Some births ↦ refl ]

pub number_changes : (holdings : Holdings) (holder : Holder) (births : List ℕ) (b : ℕ) → number_of_holders b (with_births holdings holder births) + holds b (held_by holdings holder) ≡ number_of_holders b holdings + holds b births
number_changes holdings holder [] b = omega (arith, weight_held holdings holder b, sum-remove holder_cmp holder_cmp_total holder_cmp-IsAntisymmetric (holds b) holdings holder)
number_changes holdings holder (x ∷ births) b = omega (arith, weight_held holdings holder b, sum-insert holder_cmp holder_cmp_total (holds b) holdings holder (x ∷ births))

pub holds_one : (holdings : Holdings) (holder : Holder) (b : ℕ) → has_birth (held_by holdings holder) b ≡ true → 1 ≤ number_of_holders b holdings
holds_one holdings holder b is =
    omega (arith, weight_held holdings holder b, ap {B = ℕ} (λ t. cond t 1 0) is, sum-remove holder_cmp holder_cmp_total holder_cmp-IsAntisymmetric (holds b) holdings holder)

pub few_holders : (holdings : Holdings) (b : ℕ) → number_of_holders b holdings ≤ fin.len holdings
few_holders holdings b = omega (arith, count_by-le-length (λ births. has_birth births b) (fin.values holdings), length-values_of (entries holdings), fin.len-entries holdings)

-- ---- what a call of `hold` may rest on
pub are_held : (m : CountedMap) (holdings : Holdings) (holder : Holder) → IsCountedBy m holdings → AreHeld m (held_by holdings holder)
are_held m holdings holder counted b is = omega (arith, counted b, holds_one holdings holder b is)

pub is_at : (P : ℕ → Type 0) (q : ℕ) (xs : List ℕ) → AllByRecursion P xs → has_birth xs q ≡ true → P q
is_at P q [] all some = absurd cc
is_at P q (x ∷ xs) all some =
    elim (q == x) as (λ t. (q == x) ≡ t → (t || has_birth xs q) ≡ true → P q) [
      | true ↦ λ t _. let same : q ≡ x = same_number q x t in subst P (sym same) all.0
      | false ↦ λ t rest. is_at P q xs all.1 rest
    ] refl some

placed : (x : Option Counted) → IsSome (runs_at x) → is_some x ≡ true
placed None is = is
placed (Some c) is = refl

pub are_few : (m : CountedMap) (holdings : Holdings) (births : List ℕ) → IsCountedBy m holdings → fin.len holdings < 2 ^ 63 → All (λ b. IsSome (fin.get (places_in m) b)) births → AreFew m births
are_few m holdings births counted few all b is = (
  placed (fin.get m b) (subst IsSome (get_places m b) (is_at (λ b. IsSome (fin.get (places_in m) b)) b births (recursion_from_All (λ b. IsSome (fin.get (places_in m) b)) births all) is)),
  omega (arith, counted b, few, few_holders holdings b),
)

-- ---- what it leaves
pub counted_after : (m p : CountedMap) (holdings : Holdings) (holder : Holder) (births : List ℕ) → IsCountedBy m holdings → AreFew m births → AreExchanged m (held_by holdings holder) births p → IsCountedBy p (with_births holdings holder births)
counted_after m p holdings holder births counted few changed b =
    let old = held_by holdings holder in
    omega (arith, exchanged_count m p births old few (are_held m holdings holder counted) changed b, counted b, number_changes holdings holder births b)

filter_on : (p q : ℕ → Bool) (xs : List ℕ) → ((b : ℕ) → has_birth xs b ≡ true → p b ≡ q b) → filter p xs ≡ filter q xs
filter_on p q [] same = refl
filter_on p q (x ∷ xs) same =
    let own : (x == x) ≡ true = own_number x in
    ap (λ t. cond t (x ∷ filter p xs) (filter p xs)) (same x (ap (λ t. t || has_birth xs x) own))
    ∙ ap (λ (ys : List ℕ). cond (q x) (x ∷ ys) ys) (filter_on p q xs (λ b is. same b (after (b == x) (has_birth xs b) is)))
  where
    after : (t u : Bool) → u ≡ true → (t || u) ≡ true
    after true u is = refl
    after false u is = is

one_and_none : (x y : ℕ) → y + 1 ≡ x → (x == 1) ≡ (y == 0)
one_and_none x y is = ap (λ n. n == 1) (sym is) ∙ tests y
  where
    tests : (y : ℕ) → (y + 1 == 1) ≡ (y == 0)
    tests y = grind (arith, nat_tests)

-- the births whose last holder goes are those that nobody holds then
pub lone_is_unheld : (m : CountedMap) (holdings : Holdings) (holder : Holder) (births : List ℕ) → IsCountedBy m holdings → lone_births m births (held_by holdings holder) ≡ unheld_births holdings holder births
lone_is_unheld m holdings holder births counted =
    filter_on _ _ (held_by holdings holder) (λ b is.
    one_and_none (holders_in (fin.get m b) + holds b births) (number_of_holders b (with_births holdings holder births))
    (omega (arith, counted b, number_changes holdings holder births b, ap {B = ℕ} (λ t. cond t 1 0) is)))

runs_same : (t : Bool) (x : Option Counted) → runs_at (cond t (with_one_more x) x) ≡ runs_at x
runs_same true None = refl
runs_same true (Some c) = refl
runs_same false x = refl

release_runs : (x : Option Counted) → 1 ≤ holders_in x → runs_at (with_one_fewer x) ≡ cond (not (holders_in x == 1)) (runs_at x) None
release_runs None some = absurd (omega (arith, some))
release_runs (Some c) some =
    elim (c.holders == 1) as (λ t. runs_at (cond t None (Some (with_holders c (c.holders - 1)))) ≡ cond (not t) (Some c.runs) None) [ true ↦ refl | false ↦ refl ]

-- the runs that a birth has after an exchange
exchanged_runs : (m p : CountedMap) (old new : List ℕ) → AreFew m new → AreHeld m old → AreExchanged m old new p → (q : ℕ)
    → runs_at (fin.get p q) ≡ cond (not (has_birth old q && ((holders_in (fin.get m q) + cond (has_birth new q) 1 0) == 1))) (runs_at (fin.get m q)) None
exchanged_runs m p old new few held changed q =
    let r = cond (has_birth new q) (with_one_more (fin.get m q)) (fin.get m q) in
    let more = raised_at m new few q in
    let same = runs_same (has_birth new q) (fin.get m q) in
    ap runs_at (changed q)
    ∙ elim (has_birth old q) as (λ t. has_birth old q ≡ t → runs_at (cond t (with_one_fewer r) r) ≡ cond (not (t && ((holders_in (fin.get m q) + cond (has_birth new q) 1 0) == 1))) (runs_at (fin.get m q)) None) [
      | true ↦ λ t. release_runs r (omega (arith, held q t, more))
          ∙ ap (λ n. cond (not (n == 1)) (runs_at r) None) more
          ∙ ap (λ x. cond (not ((holders_in (fin.get m q) + cond (has_birth new q) 1 0) == 1)) x None) same
      | false ↦ λ t. same
    ] refl

pub places_exchanged : (m p : CountedMap) (old new : List ℕ) → AreFew m new → AreHeld m old → AreExchanged m old new p → places_in p ≡ fin.retain_keys (places_in m) (λ b. not (has_birth (lone_births m new old) b))
places_exchanged m p old new few held changed = same_map nat_cmp_total nat_cmp-IsAntisymmetric _ _ (λ q.
    let test : ℕ → Bool = λ b. (holders_in (fin.get m b) + cond (has_birth new b) 1 0) == 1 in
    get_places p q
    ∙ exchanged_runs m p old new few held changed q
    ∙ ap (λ t. cond (not t) (runs_at (fin.get m q)) None) (sym (is_member-filter nat_eq_equiv test q (λ x same. ap test (same_number q x same)) old))
    ∙ ap (λ x. cond (not (has_birth (lone_births m new old) q)) x None) (sym (get_places m q))
    ∙ sym (get-retain_keys (places_in m) (λ b. not (has_birth (lone_births m new old) b)) q (λ x same. ap (λ b. not (has_birth (lone_births m new old) b)) (sym (nat_cmp-IsAntisymmetric q x same)))))

-- the places that go
pub runs_handed_out : (m : CountedMap) (bs : List ℕ) → runs_of_births m bs ≡ map (λ b. record { birth = b; runs = unwrap_or (fin.get (places_in m) b) [] }) bs
runs_handed_out m bs = ap (λ (f : ℕ → List Run). map {B = BirthRuns} (λ b. record { birth = b; runs = f b }) bs) (λ i b. (runs_or (fin.get m b) ∙ ap (λ x. unwrap_or x []) (sym (get_places m b))) i)
  where
    runs_or : (x : Option Counted) → runs_in x ≡ unwrap_or (runs_at x) []
    runs_or None = refl
    runs_or (Some c) = refl

-- ---- a ledger after an exchange
module _ (m : CountedMap) (h : Holdings) (holder : Holder) (births old : List ℕ) (counted : IsCountedBy m h) (is : old ≡ held_by h holder) where
  pub held_now : AreHeld m old
  held_now = subst (AreHeld m) (sym is) (are_held m h holder counted)

  pub lone_now : lone_births m births old ≡ unheld_births h holder births
  lone_now = ap (lone_births m births) is ∙ lone_is_unheld m h holder births counted

  pub handed_now : runs_of_births m (lone_births m births old) ≡ unheld_places (record { places = places_in m; holdings = h }) holder births
  handed_now = ap (runs_of_births m) lone_now ∙ runs_handed_out m (unheld_births h holder births)

  module _ (p : CountedMap) (few : AreFew m births) (changed : AreExchanged m old births p) where
    pub counted_now : IsCountedBy p (with_births h holder births)
    counted_now = counted_after m p h holder births counted few (subst (λ bs. AreExchanged m bs births p) is changed)

    pub places_now : places_in p ≡ (with_holding (record { places = places_in m; holdings = h }) holder births).places
    places_now =
        places_exchanged m p old births few held_now changed
        ∙ ap (λ bs. fin.retain_keys (places_in m) (λ b. not (has_birth bs b))) lone_now

-- ---- the live places and those that wait
abbrev pub waiting_runs : Option Counted → Option (List Run)
waiting_runs None = None
waiting_runs (Some c) = cond (c.holders == 0) (Some c.runs) None

live_where : (x : Option Counted) → cond (not (holders_in x == 0)) (runs_at x) None ≡ live_runs x
live_where None = refl
live_where (Some c) = elim (c.holders == 0) as (λ t. cond (not t) (Some c.runs) None ≡ cond t None (Some c.runs)) [ true ↦ refl | false ↦ refl ]

waiting_where : (x : Option Counted) → cond (not (not (holders_in x == 0))) (runs_at x) None ≡ waiting_runs x
waiting_where None = refl
waiting_where (Some c) = elim (c.holders == 0) as (λ t. cond (not (not t)) (Some c.runs) None ≡ cond t (Some c.runs) None) [ true ↦ refl | false ↦ refl ]

pub get_live : (m : CountedMap) (q : ℕ) → fin.get (live_places_in m) q ≡ live_runs (fin.get m q)
get_live m q =
    get-retain_keys (places_in m) (λ b. not (holders_in (fin.get m b) == 0)) q (λ x same. ap (λ b. not (holders_in (fin.get m b) == 0)) (sym (nat_cmp-IsAntisymmetric q x same)))
    ∙ ap (λ x. cond (not (holders_in (fin.get m q) == 0)) x None) (get_places m q)
    ∙ live_where (fin.get m q)

pub get_waiting : (m : CountedMap) (q : ℕ) → fin.get (waiting_places_in m) q ≡ waiting_runs (fin.get m q)
get_waiting m q =
    get-retain_keys (places_in m) (λ b. not (not (holders_in (fin.get m b) == 0))) q (λ x same. ap (λ b. not (not (holders_in (fin.get m b) == 0))) (sym (nat_cmp-IsAntisymmetric q x same)))
    ∙ ap (λ x. cond (not (not (holders_in (fin.get m q) == 0))) x None) (get_places m q)
    ∙ waiting_where (fin.get m q)

-- counts and holders say the same
pub live_is : (m : CountedMap) (holdings : Holdings) → IsCountedBy m holdings → live_places_in m ≡ live_places (record { places = places_in m; holdings = holdings })
live_is m holdings counted = ap (λ (f : ℕ → ℕ). fin.retain_keys (places_in m) (λ b. not (f b == 0))) (λ i b. counted b i)

pub waiting_is : (m : CountedMap) (holdings : Holdings) → IsCountedBy m holdings → waiting_places_in m ≡ waiting_places (record { places = places_in m; holdings = holdings })
waiting_is m holdings counted = ap (λ (f : ℕ → ℕ). fin.retain_keys (places_in m) (λ b. not (not (f b == 0)))) (λ i b. counted b i)

abbrev pub size : List Run → ℕ
size = λ runs. length (blocks_in runs)

pub live_weight : (x : Option Counted) → weight live_in x ≡ weight size (live_runs x)
live_weight None = refl
live_weight (Some c) = elim (c.holders == 0) as (λ t. cond t 0 (size c.runs) ≡ weight size (cond t None (Some c.runs))) [ true ↦ refl | false ↦ refl ]

pub live_sum_is : (m : CountedMap) (holdings : Holdings) → IsCountedBy m holdings → live_sum m ≡ live_blocks (record { places = places_in m; holdings = holdings })
live_sum_is m holdings counted =
    same_sum nat_cmp nat_cmp_total nat_cmp-IsAntisymmetric live_in size m (live_places_in m) (λ q. live_weight (fin.get m q) ∙ ap (weight size) (sym (get_live m q)))
    ∙ ap number_of_blocks (live_is m holdings counted)

-- ---- the place of a birth
pub place_by_counts : (m : CountedMap) (holdings : Holdings) (b : ℕ) → IsCountedBy m holdings → live_runs (fin.get m b) ≡ place_of (record { places = places_in m; holdings = holdings }) b
place_by_counts m holdings b counted = sym (get_live m b) ∙ ap (λ (places : Places). fin.get places b) (live_is m holdings counted)

pub counted_placed : (m : CountedMap) (holdings : Holdings) (b : ℕ) (runs : List Run) → fin.get m b ≡ None → IsCountedBy m holdings → IsCountedBy (fin.insert m b (without_holder runs)) holdings
counted_placed m holdings b runs none counted q =
    ap holders_in (get-insert nat_cmp_total m b (without_holder runs) q)
    ∙ elim (eq_by_cmp nat_cmp q b) as (λ t. eq_by_cmp nat_cmp q b ≡ t → holders_in (cond t (Some (without_holder runs)) (fin.get m q)) ≡ number_of_holders q holdings) [
      | true ↦ λ t. let same = nat_cmp-IsAntisymmetric q b (equal _ t) in sym (ap holders_in (ap (fin.get m) same ∙ none)) ∙ counted q
      | false ↦ λ t. counted q
    ] refl

pub places_placed : (m : CountedMap) (b : ℕ) (runs : List Run) → places_in (fin.insert m b (without_holder runs)) ≡ fin.insert (places_in m) b runs
places_placed m b runs = same_map nat_cmp_total nat_cmp-IsAntisymmetric _ _ (λ q.
    get_places (fin.insert m b (without_holder runs)) q
    ∙ ap runs_at (get-insert nat_cmp_total m b (without_holder runs) q)
    ∙ elim (eq_by_cmp nat_cmp q b) as (λ t. runs_at (cond t (Some (without_holder runs)) (fin.get m q)) ≡ cond t (Some runs) (runs_at (fin.get m q))) [ true ↦ refl | false ↦ refl ]
    ∙ ap (cond (eq_by_cmp nat_cmp q b) (Some runs)) (sym (get_places m q))
    ∙ sym (get-insert nat_cmp_total (places_in m) b runs q))

pub unplaced : (x : Option Counted) → runs_at x ≡ None → x ≡ None
unplaced None is = refl
unplaced (Some c) is = absurd cc

pub placed_times : (block : ℕ) (es : List (ℕ × Counted)) → count_by (λ y. block == y) (flat_map blocks_in (map (λ e. e.1) (map uncounted es))) ≡ sum_by (times block) (map (λ e. e.1) es)
placed_times block [] = refl
placed_times block (e ∷ es) =
    omega (arith, sum_by-append (λ y. cond (block == y) 1 0) (blocks_in e.1.runs) (flat_map blocks_in (map (λ (e : ℕ × List Run). e.1) (map uncounted es))), placed_times block es, sum_by-cons (times block) e.1 (map (λ (e : ℕ × Counted). e.1) es))

pub not_contained : (q : ℕ) (xs : List ℕ) → ¬ (Contains xs q) → has_birth xs q ≡ false
not_contained q xs none = elim (has_birth xs q) as (λ t. has_birth xs q ≡ t → t ≡ false) [
  | true ↦ λ t. absurd (none (Contains-from_any exact_unsigned_eq q xs t))
  | false ↦ λ _. refl
] refl

below_bound : (q n : ℕ) → q < n → nat_lt q n ≡ true
below_bound q n less = grind (arith, nat_tests, less)

-- blocks below 2^32 that are named once each
pub named_fit : (xs : List ℕ) → All (λ b. b < 2 ^ 32) xs → AllPairs (λ x y. x ≢ y) xs → (block : ℕ) → count_by (λ y. block == y) xs ≤ cond (nat_lt block (2 ^ 32)) 1 0
named_fit xs below once block =
    elim (has_birth xs block) as (λ t. has_birth xs block ≡ t → count_by (λ y. block == y) xs ≤ cond (nat_lt block (2 ^ 32)) 1 0) [
      | true ↦ λ t. omega (arith, named_once xs once block, ap {B = ℕ} (λ b. cond b 1 0) (below_bound block (2 ^ 32) (is_at (λ b. b < 2 ^ 32) block xs (recursion_from_All (λ b. b < 2 ^ 32) xs below) t)))
      | false ↦ λ t. omega (arith, none_counted_in block xs t)
    ] refl

-- blocks that the rules let a new place have are free
pub new_is_free : (m : CountedMap) (runs : List Run) → IsNewPlace (places_in m) runs → IsFree m runs
new_is_free m runs new block =
    let xs = blocks_in runs in
    let all = occupied_blocks (places_in m) in
    let times_all : count_by (λ y. block == y) all ≡ sum_by (times block) (fin.values m) =
    ap (λ (es : List (ℕ × List Run)). count_by (λ y. block == y) (flat_map blocks_in (map (λ e. e.1) es))) (entries_places m) ∙ placed_times block (entries m) in (
      named_fit xs new.below new.once block,
      λ some. omega (arith, times_all, none_counted_in block all (not_contained block all (is_at (λ b. ¬ (Contains all b)) block xs (recursion_from_All (λ b. ¬ (Contains all b)) xs new.apart) (stands_in block xs some)))),
    )
