-- Places in the order of their first blocks, and that it doesn't matter in which order they came.
use Rattle.std.proofs.Common.{◌≡◌, ℕ, ◌+◌, ◌≤◌, ◌<◌, true, false, cond, List, [], ◌∷◌, map, length, get_or, Option, Some, None, refl, sym, ap, subst, ◌∙◌, arith}
use Rattle.std.specs.Prelude.{nat_lt, Contains, slice_get, slice_index_or, ◌==◌}
use Rattle.std.specs.List.{AllByRecursion, IsDistinct}
use Rattle.std.specs.List.Sorted.{IsPermutation, IsSortedByKey}
use Rattle.std.specs.Map.{keys_of, lookup}
use Rattle.std.specs.Ordering.{nat_cmp, eq_by_cmp, is_lt, match_ordering}
use Rattle.std.specs.declared.cmp.Ordering.TheVariants.{Less, Equal, Greater}
use Rattle.std.specs.Cmp.{nat_cmp_total, unsigned_ties, eq_by_cmp_equiv}
use Rattle.std.specs.FinMap.{nat_cmp-IsAntisymmetric}
use Rattle.std.specs.BTreeMap.{insert_entry}
use Rattle.std.proofs.lemmas.List.{length-map, get_or-map}
use Rattle.std.proofs.lemmas.List.Sorted.{IsPermutation-map, IsPermutation-sym, Contains-permutation}
use Rattle.std.proofs.lemmas.Map.Entries.{place_from_lookup, lookup_from_place}
use Rattle.std.proofs.lemmas.List.Sums.{sum_by-cons}
use Rattle.std.proofs.lemmas.Option.{slice_get-get_or, slice_get_within}
use Rattle.sf_types.specs.Space.Placings.{Placed, all_blocks}
use Rattle.sf_types.specs.Play.Blocks.{first_block, with_place_by_first, places_by_first}
use Rattle.sf_types.proofs.NameMapLemmas.{equal}
use Rattle.sf_types.proofs.NumberLemmas.{same_number, own_number}
use Rattle.sf_room_map.specs.Entries.{value_for}
use Rattle.sf_room_map.specs.Inside.Sorted.{sorted_entries}
use Rattle.sf_room_map.proofs.EntryLemmas.{find_is, are_sorted, find_sorted, same_values}
use Rattle.sf_room_map.proofs.HashedLemmas.{listed}
use Rattle.sf_stock.proofs.NewLemmas.{count_of, count-append}

-- places that begin with different blocks
abbrev pub Firsts : List Placed → Type 0
Firsts [] = Unit {0}
Firsts (x ∷ xs) = AllByRecursion (λ y. (first_block x == first_block y) ≡ false) xs × Firsts xs

first_in : (x : Placed) → 1 ≤ length x.blocks → 1 ≤ count_of (first_block x) x.blocks
first_in x some = of_blocks x.blocks some
  where
    of_blocks : (blocks : List ℕ) → 1 ≤ length blocks → 1 ≤ count_of (slice_index_or blocks 0 0) blocks
    of_blocks [] some = absurd (omega (arith, some))
    of_blocks (b ∷ blocks) some = omega (arith, sum_by-cons (λ y. cond (b == y) 1 0) b blocks, ap {B = ℕ} (λ t. cond t 1 0) (own_number b))

other_firsts : (b : ℕ) (xs : List Placed) → AllByRecursion (λ x. 1 ≤ length x.blocks) xs → count_of b (all_blocks xs) ≡ 0 → AllByRecursion (λ y. (b == first_block y) ≡ false) xs
other_firsts b [] filled none = tt
other_firsts b (x ∷ xs) filled none =
    let parts = count-append b x.blocks (all_blocks xs) in (
      elim (b == first_block x) as (λ t. (b == first_block x) ≡ t → t ≡ false) [
        | true ↦ λ is. absurd (
            let same : count_of b x.blocks ≡ count_of (first_block x) x.blocks = ap (λ n. count_of n x.blocks) (same_number b (first_block x) is) in
            omega (arith, parts, none, same, first_in x filled.0))
        | false ↦ λ _. refl
      ] refl,
      other_firsts b xs filled.1 (omega (arith, parts, none)),
    )

-- places with blocks that stand once begin with different ones
pub firsts_apart : (xs : List Placed) → AllByRecursion (λ x. 1 ≤ length x.blocks) xs → ((block : ℕ) → count_of block (all_blocks xs) ≤ 1) → Firsts xs
firsts_apart [] filled once = tt
firsts_apart (x ∷ xs) filled once = (
  other_firsts (first_block x) xs filled.1 (omega (arith, count-append (first_block x) x.blocks (all_blocks xs), once (first_block x), first_in x filled.0)),
  firsts_apart xs filled.1 (λ block. omega (arith, count-append block x.blocks (all_blocks xs), once block)),
)

-- ---- entries by first blocks
abbrev Keyed : Type 0
Keyed = List (ℕ × Placed)

abbrev keyed : Placed → ℕ × Placed
keyed = λ x. (first_block x, x)

abbrev shown : ℕ × Placed → Placed
shown = λ e. e.1

by_cmp : (k q : ℕ) → (k == q) ≡ false → nat_cmp k q ≡ cond (nat_lt k q) Less Greater
by_cmp k q is = ap (λ t. cond (nat_lt k q) Less (cond t Equal Greater)) is

each_put : (P : ℕ × Placed → Type 0) (es : Keyed) (k : ℕ) (x : Placed) → P (k, x) → AllByRecursion P es → AllByRecursion (λ e. (k == e.0) ≡ false) es → AllByRecursion P (insert_entry nat_cmp es k x)
each_put P [] k x new all apart = (new, tt)
each_put P (e ∷ es) k x new all apart =
    let rest = each_put P es k x new all.1 apart.1 in
    subst (λ r. AllByRecursion P (match_ordering r ((k, x) ∷ e ∷ es) ((e.0, x) ∷ es) (e ∷ insert_entry nat_cmp es k x))) (sym (by_cmp k e.0 apart.0))
    (elim (nat_lt k e.0) as (λ t. AllByRecursion P (match_ordering (cond t Less Greater) ((k, x) ∷ e ∷ es) ((e.0, x) ∷ es) (e ∷ insert_entry nat_cmp es k x))) [
      | true ↦ (new, all)
      | false ↦ (all.0, rest)
    ])

put_by_first : (es : Keyed) (x : Placed) → AllByRecursion (λ e. e.0 ≡ first_block e.1) es → AllByRecursion (λ e. (first_block x == e.0) ≡ false) es
    → map shown (insert_entry nat_cmp es (first_block x) x) ≡ with_place_by_first x (map shown es)
put_by_first [] x keys apart = refl
put_by_first (e ∷ es) x keys apart =
    let k = first_block x in
    let rest = put_by_first es x keys.1 apart.1 in
    ap (λ r. map shown (match_ordering r ((k, x) ∷ e ∷ es) ((e.0, x) ∷ es) (e ∷ insert_entry nat_cmp es k x))) (by_cmp k e.0 apart.0)
    ∙ elim (nat_lt k e.0) as (λ t. map shown (match_ordering (cond t Less Greater) ((k, x) ∷ e ∷ es) ((e.0, x) ∷ es) (e ∷ insert_entry nat_cmp es k x)) ≡ cond t (x ∷ map shown (e ∷ es)) (shown e ∷ with_place_by_first x (map shown es))) [
      | true ↦ refl
      | false ↦ ap (λ (ys : List Placed). shown e ∷ ys) rest
    ]
    ∙ ap (λ n. cond (nat_lt k n) (x ∷ map shown (e ∷ es)) (shown e ∷ with_place_by_first x (map shown es))) keys.0

each_sorted : (P : ℕ × Placed → Type 0) (xs : List Placed) → Firsts xs → AllByRecursion (λ x. P (keyed x)) xs → AllByRecursion P (sorted_entries nat_cmp (map keyed xs))
each_sorted P [] firsts all = tt
each_sorted P (x ∷ xs) firsts all =
    each_put P (sorted_entries nat_cmp (map keyed xs)) (first_block x) x all.0 (each_sorted P xs firsts.1 all.1) (each_sorted (λ e. (first_block x == e.0) ≡ false) xs firsts.1 firsts.0)

each_own : (xs : List Placed) → AllByRecursion (λ x. first_block x ≡ first_block x) xs
each_own [] = tt
each_own (x ∷ xs) = (refl, each_own xs)

sorted_by_first : (xs : List Placed) → Firsts xs → map shown (sorted_entries nat_cmp (map keyed xs)) ≡ places_by_first xs
sorted_by_first [] firsts = refl
sorted_by_first (x ∷ xs) firsts =
    put_by_first (sorted_entries nat_cmp (map keyed xs)) x
    (each_sorted (λ e. e.0 ≡ first_block e.1) xs firsts.1 (each_own xs))
    (each_sorted (λ e. (first_block x == e.0) ≡ false) xs firsts.1 firsts.0)
    ∙ ap (with_place_by_first x) (sorted_by_first xs firsts.1)

keys_are : (xs : List Placed) → keys_of (map keyed xs) ≡ map first_block xs
keys_are [] = refl
keys_are (x ∷ xs) = ap (λ (ks : List ℕ). first_block x ∷ ks) (keys_are xs)

distinct_keys : (xs : List Placed) → Firsts xs → IsDistinct (eq_by_cmp nat_cmp) (keys_of (map keyed xs))
unfolding IsDistinct
distinct_keys [] firsts = tt
distinct_keys (x ∷ xs) firsts = (apart (first_block x) xs firsts.0, distinct_keys xs firsts.1)
  where
    apart : (k : ℕ) (xs : List Placed) → AllByRecursion (λ y. (k == first_block y) ≡ false) xs → AllByRecursion (λ q. eq_by_cmp nat_cmp k q ≡ false) (keys_of (map keyed xs))
    apart k [] all = tt
    apart k (x ∷ xs) all = (sym (unsigned_ties k (first_block x)) ∙ all.0, apart k xs all.1)

shown_again : (xs : List Placed) → map shown (map keyed xs) ≡ xs
shown_again [] = refl
shown_again (x ∷ xs) = ap (λ (ys : List Placed). x ∷ ys) (shown_again xs)

adjacent : (ys : List Placed) → IsSortedByKey first_block nat_cmp ys → (i d : ℕ) → i + 1 < length (keys_of (map keyed ys)) → is_lt (nat_cmp (get_or (keys_of (map keyed ys)) (i + 1) d) (get_or (keys_of (map keyed ys)) i d)) ≡ false
adjacent [] sorted i d less = absurd (omega (arith, less))
adjacent (y ∷ ys) sorted i d less =
    let all = y ∷ ys in
    let within : i + 1 < length all = omega (arith, less, ap length (keys_are all), length-map {B = ℕ} all first_block) in
    ap (λ ks. is_lt (nat_cmp (get_or ks (i + 1) d) (get_or ks i d))) (keys_are all)
    ∙ ap (λ k. is_lt (nat_cmp k (get_or (map first_block all) i d))) (get_or-map first_block all (i + 1) y d within)
    ∙ ap (λ k. is_lt (nat_cmp (first_block (get_or all (i + 1) y)) k)) (get_or-map first_block all i y d (omega (arith, within)))
    ∙ sorted i y (omega arith) within

-- places in the order of their first blocks are those that the rule puts in that order
pub sorted_places : (xs ys : List Placed) → Firsts xs → IsPermutation xs ys → IsSortedByKey first_block nat_cmp ys → ys ≡ places_by_first xs
sorted_places xs ys firsts moved sorted =
    sym (shown_again ys)
    ∙ ap (map shown) (listed nat_cmp nat_cmp_total nat_cmp-IsAntisymmetric (map keyed xs) (map keyed ys) (distinct_keys xs firsts) (IsPermutation-map keyed xs ys moved) (λ i d less. adjacent ys sorted i d less))
    ∙ sorted_by_first xs firsts

-- ---- another order to begin with
both_found : {X : Type 0} (x y : Option X) → ((v : X) → x ≡ Some v → y ≡ Some v) → ((v : X) → y ≡ Some v → x ≡ Some v) → x ≡ y
both_found None None there back = refl
both_found None (Some v) there back = absurd (let bad = back v refl in cc)
both_found (Some v) y there back = sym (there v refl)

found_again : (es fs : Keyed) (q : ℕ) (v : Placed) → IsDistinct (eq_by_cmp nat_cmp) (keys_of fs) → IsPermutation es fs → lookup (eq_by_cmp nat_cmp q) es ≡ Some v → lookup (eq_by_cmp nat_cmp q) fs ≡ Some v
found_again es fs q v apart moved is =
    let place = place_from_lookup (eq_by_cmp nat_cmp q) es v is in
    let less = slice_get_within es place.0 (place.1, v) place.2 in
    let there : Contains fs (place.1, v) = Contains-permutation es fs (place.1, v) moved (place.0, less, entry es place.0 (place.1, v) place.2) in
    let same : q ≡ place.1 = nat_cmp-IsAntisymmetric q place.1 (equal (nat_cmp q place.1) place.3) in
    subst (λ k. lookup (eq_by_cmp nat_cmp k) fs ≡ Some v) (sym same)
    (lookup_from_place (eq_by_cmp_equiv nat_cmp_total) fs there.0 place.1 v apart (slice_get-get_or fs there.0 (place.1, v) there.1 ∙ ap Some there.2))
  where
    some : (x y : ℕ × Placed) → ◌≡◌ {A = Option (ℕ × Placed)} (Some x) (Some y) → x ≡ y
    some x y is = cc

    entry : (es : Keyed) (i : ℕ) (e : ℕ × Placed) → slice_get es i ≡ Some e → get_or es i e ≡ e
    entry es i e is = some _ _ (sym (slice_get-get_or es i e (slice_get_within es i e is)) ∙ is)

-- places come in the same order of their first blocks, however they stood
pub resorted : (xs ys : List Placed) → Firsts xs → IsPermutation xs ys → Firsts ys → places_by_first xs ≡ places_by_first ys
resorted xs ys firsts moved also =
    let es = map keyed xs in
    let fs = map keyed ys in
    let there = IsPermutation-map keyed xs ys moved in
    sym (sorted_by_first xs firsts)
    ∙ ap (map shown) (same_values nat_cmp nat_cmp_total nat_cmp-IsAntisymmetric (sorted_entries nat_cmp es) (sorted_entries nat_cmp fs) (are_sorted nat_cmp nat_cmp_total es) (are_sorted nat_cmp nat_cmp_total fs) (λ q.
    find_sorted nat_cmp nat_cmp_total es q
    ∙ sym (find_is nat_cmp es q)
    ∙ both_found (value_for nat_cmp es q) (value_for nat_cmp fs q) (λ v. found_again es fs q v (distinct_keys ys also) there) (λ v. found_again fs es q v (distinct_keys xs firsts) (IsPermutation-sym es fs there))
    ∙ find_is nat_cmp fs q
    ∙ sym (find_sorted nat_cmp nat_cmp_total fs q)))
    ∙ sorted_by_first ys also
