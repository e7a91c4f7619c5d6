-- The places of a ledger in order, and their blocks.
use Rattle.std.proofs.Common.{◌≡◌, ℕ, ◌+◌, ◌^◌, ◌≤◌, ◌<◌, Bool, true, false, cond, nat_lt, List, [], ◌∷◌, ◌++◌, map, flat_map, Option, Some, None, refl, sym, ap, subst, ◌∙◌, arith}
use Rattle.std.specs.Prelude.{◌==◌, ◌≢◌, T, All, AllPairs}
use Rattle.std.specs.List.{sum_by, count_by, AllByRecursion}
use Rattle.std.specs.Ordering.{nat_cmp, is_eq}
use Rattle.std.specs.declared.cmp.Ordering.TheVariants.{Less}
use Rattle.std.specs.Cmp.{nat_cmp_total, ranked, unsigned_Decides}
use Rattle.std.specs.FinMap as fin
use Rattle.std.specs.FinMap.{nat_cmp-IsAntisymmetric, entries, entries_sorted, get-entries, get-from_entries}
use Rattle.std.specs.FinMap.Entries.{find, is_sorted, below_all, same_entries}
use Rattle.std.proofs.lemmas.List.Elements.{All-from_recursion}
use Rattle.std.proofs.lemmas.List.Sums.{sum_by-cons, sum_by-append}
use Rattle.std.proofs.lemmas.Map.Made.{AllPairs-from_IsDistinct}
use Rattle.sf_types.specs.declared.birth_runs.BirthRuns.{BirthRuns}
use Rattle.sf_types.specs.declared.run.Run.{Run}
use Rattle.sf_types.specs.Inside.Births.{IsBelowAll, IsRising}
use Rattle.sf_types.specs.Space.BlockRuns.{blocks_in}
use Rattle.sf_types.proofs.BoolLemmas.{first, second, both}
use Rattle.sf_types.proofs.NumberLemmas.{own_number}
use Rattle.sf_room_map.proofs.EntryLemmas.{below_tied}
use Rattle.sf_shrink.specs.Plans.{blocks_of_places, ArePlaced}
use Rattle.sf_lifetimes.specs.declared.counted.Counted.{Counted}
use Rattle.sf_lifetimes.specs.Ledgers.{occupied_blocks}
use Rattle.sf_lifetimes.specs.Inside.Counts.{CountedMap, IsCounted, live_runs, live_place, times}
use Rattle.sf_lifetimes.specs.Inside.Counted.{live_places_in, waiting_places_in}
use Rattle.sf_lifetimes.proofs.MapSumLemmas.{weight, same_sum, find-below}
use Rattle.sf_lifetimes.proofs.CountLemmas.{distinct, below, once_below}
use Rattle.sf_lifetimes.proofs.LedgerLemmas.{waiting_runs, get_live, get_waiting}
use Rattle.sf_types.proofs.NameMapLemmas.{equal, ordering_less}

-- how many times runs name a block
abbrev pub times_named : ℕ → List Run → ℕ
times_named block = λ runs. count_by (λ y. block == y) (blocks_in runs)

pub named_in_all : (block : ℕ) (rs : List (List Run)) → count_by (λ y. block == y) (flat_map blocks_in rs) ≡ sum_by (times_named block) rs
named_in_all block [] = refl
named_in_all block (r ∷ rs) = omega (arith, sum_by-append (λ y. cond (block == y) 1 0) (blocks_in r) (flat_map blocks_in rs), named_in_all block rs, sum_by-cons (times_named block) r rs)

abbrev live_times : ℕ → Counted → ℕ
live_times block = λ c. cond (c.holders == 0) 0 (times block c)

abbrev waiting_times : ℕ → Counted → ℕ
waiting_times block = λ c. cond (c.holders == 0) (times block c) 0

split_times : (block : ℕ) (cs : List Counted) → sum_by (times block) cs ≡ sum_by (live_times block) cs + sum_by (waiting_times block) cs
split_times block [] = refl
split_times block (c ∷ cs) =
    omega (arith, sum_by-cons (times block) c cs, sum_by-cons (live_times block) c cs, sum_by-cons (waiting_times block) c cs, split_times block cs, either (c.holders == 0) (times block c))
  where
    either : (t : Bool) (n : ℕ) → n ≡ cond t 0 n + cond t n 0
    either true n = omega arith
    either false n = omega arith

live_named : (block : ℕ) (x : Option Counted) → weight (live_times block) x ≡ weight (times_named block) (live_runs x)
live_named block None = refl
live_named block (Some c) = elim (c.holders == 0) as (λ t. cond t 0 (times block c) ≡ weight (times_named block) (cond t None (Some c.runs))) [ true ↦ refl | false ↦ refl ]

waiting_named : (block : ℕ) (x : Option Counted) → weight (waiting_times block) x ≡ weight (times_named block) (waiting_runs x)
waiting_named block None = refl
waiting_named block (Some c) = elim (c.holders == 0) as (λ t. cond t (times block c) 0 ≡ weight (times_named block) (cond t (Some c.runs) None)) [ true ↦ refl | false ↦ refl ]

-- a block stands in live places and in those that wait
pub times_in : (m : CountedMap) (block : ℕ) → sum_by (times block) (fin.values m) ≡ count_by (λ y. block == y) (occupied_blocks (live_places_in m)) + count_by (λ y. block == y) (occupied_blocks (waiting_places_in m))
times_in m block =
    let live = same_sum nat_cmp nat_cmp_total nat_cmp-IsAntisymmetric (live_times block) (times_named block) m (live_places_in m) (λ q. live_named block (fin.get m q) ∙ ap (weight (times_named block)) (sym (get_live m q))) in
    let waiting = same_sum nat_cmp nat_cmp_total nat_cmp-IsAntisymmetric (waiting_times block) (times_named block) m (waiting_places_in m) (λ q. waiting_named block (fin.get m q) ∙ ap (weight (times_named block)) (sym (get_waiting m q))) in
    omega (arith, split_times block (fin.values m), live, waiting, named_in_all block (fin.values (live_places_in m)), named_in_all block (fin.values (waiting_places_in m)))

-- ---- numbers that stand once each below a bound
pub all_below : (n : ℕ) (xs : List ℕ) → ((x : ℕ) → count_by (λ y. x == y) xs ≤ cond (nat_lt x n) 1 0) → AllByRecursion (λ x. x < n) xs
all_below n [] most = tt
all_below n (x ∷ xs) most = (
  below x n (omega (arith, most x, sum_by-cons (λ y. cond (x == y) 1 0) x xs, ap {B = ℕ} (λ b. cond b 1 0) (own_number x))),
  all_below n xs (λ z. omega (arith, most z, sum_by-cons (λ y. cond (z == y) 1 0) x xs)),
)

-- ---- the list of places
rising_below : {X : Type 0} (x : ℕ) (es : List (ℕ × X)) → T (below_all nat_cmp x es) → IsBelowAll x (map (λ e. e.0) es)
rising_below x [] sorted = tt
rising_below x (e ∷ es) sorted = (ranked x e.0 Less (sym (ordering_less (nat_cmp x e.0) (first _ _ sorted))), rising_below x es (second _ _ sorted))

pub rising_keys : {X : Type 0} (es : List (ℕ × X)) → T (is_sorted nat_cmp es) → IsRising (map (λ e. e.0) es)
rising_keys [] sorted = tt
rising_keys (e ∷ es) sorted = (rising_below e.0 es (first _ _ sorted), rising_keys es (second _ _ sorted))

abbrev pub to_place : ℕ × List Run → BirthRuns
to_place = λ e. record { birth = e.0; runs = e.1 }

listed_births : (es : List (ℕ × List Run)) → map (λ p. p.birth) (map to_place es) ≡ map (λ e. e.0) es
listed_births [] = refl
listed_births (e ∷ es) = ap (λ (xs : List ℕ). e.0 ∷ xs) (listed_births es)

listed_blocks : (es : List (ℕ × List Run)) → blocks_of_places (map to_place es) ≡ flat_map blocks_in (map (λ e. e.1) es)
listed_blocks [] = refl
listed_blocks (e ∷ es) = ap (λ (xs : List ℕ). blocks_in e.1 ++ xs) (listed_blocks es)

pub are_placed : (m : CountedMap) (live : ℕ) → IsCounted m live → ArePlaced (map to_place (entries (live_places_in m))) (2 ^ 32)
are_placed m live counted =
    let es = entries (live_places_in m) in
    let xs = occupied_blocks (live_places_in m) in
    let most : (block : ℕ) → count_by (λ y. block == y) xs ≤ cond (nat_lt block (2 ^ 32)) 1 0 = λ block. omega (arith, counted.once block, times_in m block) in
    record {
      births = subst IsRising (sym (listed_births es)) (rising_keys es (entries_sorted (live_places_in m)));
      below = subst (All (λ block. block < 2 ^ 32)) (sym (listed_blocks es)) (All-from_recursion (λ block. block < 2 ^ 32) xs (all_below (2 ^ 32) xs most));
      once = subst (AllPairs (λ x y. x ≢ y)) (sym (listed_blocks es)) (AllPairs-from_IsDistinct unsigned_Decides xs (distinct xs (λ x. omega (arith, counted.once x, times_in m x, once_below x (2 ^ 32)))));
    }

-- ---- the list of places, entry by entry
abbrev pub listed : List (ℕ × Counted) → List BirthRuns
listed [] = []
listed (e ∷ es) = live_place e.0 (live_runs (Some e.1)) ++ listed es

abbrev live_pairs : List (ℕ × Counted) → List (ℕ × List Run)
live_pairs [] = []
live_pairs (e ∷ es) = cond (e.1.holders == 0) (live_pairs es) ((e.0, e.1.runs) ∷ live_pairs es)

listed_pairs : (es : List (ℕ × Counted)) → listed es ≡ map to_place (live_pairs es)
listed_pairs [] = refl
listed_pairs (e ∷ es) =
    elim (e.1.holders == 0) as (λ t. live_place e.0 (cond t None (Some e.1.runs)) ++ listed es ≡ map to_place (cond t (live_pairs es) ((e.0, e.1.runs) ∷ live_pairs es))) [
      | true ↦ listed_pairs es
      | false ↦ ap (λ (xs : List BirthRuns). to_place (e.0, e.1.runs) ∷ xs) (listed_pairs es)
    ]

below_pairs : (x : ℕ) (es : List (ℕ × Counted)) → T (below_all nat_cmp x es) → T (below_all nat_cmp x (live_pairs es))
below_pairs x [] below = tt
below_pairs x (e ∷ es) below =
    let rest = below_pairs x es (second _ _ below) in
    elim (e.1.holders == 0) as (λ t. T (below_all nat_cmp x (cond t (live_pairs es) ((e.0, e.1.runs) ∷ live_pairs es)))) [ true ↦ rest | false ↦ both _ _ (first _ _ below) rest ]

sorted_pairs : (es : List (ℕ × Counted)) → T (is_sorted nat_cmp es) → T (is_sorted nat_cmp (live_pairs es))
sorted_pairs [] sorted = tt
sorted_pairs (e ∷ es) sorted =
    let rest = sorted_pairs es (second _ _ sorted) in
    elim (e.1.holders == 0) as (λ t. T (is_sorted nat_cmp (cond t (live_pairs es) ((e.0, e.1.runs) ∷ live_pairs es)))) [ true ↦ rest | false ↦ both _ _ (below_pairs e.0 es (first _ _ sorted)) rest ]

find_pairs : (es : List (ℕ × Counted)) (q : ℕ) → T (is_sorted nat_cmp es) → find nat_cmp q (live_pairs es) ≡ live_runs (find nat_cmp q es)
find_pairs [] q sorted = refl
find_pairs (e ∷ es) q sorted =
    let rest = find_pairs es q (second _ _ sorted) in
    elim (e.1.holders == 0) as (λ t. (e.1.holders == 0) ≡ t → find nat_cmp q (cond t (live_pairs es) ((e.0, e.1.runs) ∷ live_pairs es)) ≡ live_runs (cond (is_eq (nat_cmp q e.0)) (Some e.1) (find nat_cmp q es))) [
      | true ↦ λ none. elim (is_eq (nat_cmp q e.0)) as (λ b. is_eq (nat_cmp q e.0) ≡ b → find nat_cmp q (live_pairs es) ≡ live_runs (cond b (Some e.1) (find nat_cmp q es))) [
        | true ↦ λ tie.
            rest ∙ ap live_runs (find-below nat_cmp nat_cmp_total q es (below_tied nat_cmp nat_cmp_total q e.0 es (equal _ tie) (first _ _ sorted)))
            ∙ sym (ap (λ b. cond b None (Some e.1.runs)) none)
        | false ↦ λ _. rest
      ] refl
      | false ↦ λ some. elim (is_eq (nat_cmp q e.0)) as (λ b. cond b (Some e.1.runs) (find nat_cmp q (live_pairs es)) ≡ live_runs (cond b (Some e.1) (find nat_cmp q es))) [
        | true ↦ sym (ap (λ b. cond b None (Some e.1.runs)) some)
        | false ↦ rest
      ]
    ] refl

-- the live ones of entries whose keys rise are the entries of the live places
pub places_listed : (es : List (ℕ × Counted)) → T (is_sorted nat_cmp es) → listed es ≡ map to_place (entries (live_places_in (fin.from_entries es)))
places_listed es sorted =
    let m : CountedMap = fin.from_entries es in
    listed_pairs es
    ∙ ap (λ (ps : List (ℕ × List Run)). map to_place ps)
    (same_entries nat_cmp nat_cmp_total nat_cmp-IsAntisymmetric (live_pairs es) (entries (live_places_in m)) (sorted_pairs es sorted) (entries_sorted (live_places_in m))
    (λ q. find_pairs es q sorted ∙ ap live_runs (sym (get-from_entries nat_cmp_total es q)) ∙ sym (get_live m q) ∙ get-entries (live_places_in m) q))
