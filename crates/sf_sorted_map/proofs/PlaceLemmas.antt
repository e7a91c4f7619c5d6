-- What a search among entries finds, and what a change at its place does.
use Rattle.std.proofs.Common.{◌≡◌, ℕ, zero, suc, ◌+◌, ◌-◌, ◌<◌, ◌≤◌, false, cond, List, [], ◌∷◌, ◌++◌, length, take, drop, get_or, set, Some, None, refl, sym, ap, subst, ◌∙◌, arith, Result, Ok, Err, IfOk, IfErr}
use Rattle.std.specs.Prelude.{slice_get, map, if◌then◌else◌}
use Rattle.std.specs.List.{AllByRecursion, insert, remove}
use Rattle.std.specs.List.Sorted.{IsStrictlySortedBy, IsSortedBy, IsSearchInRange, IsBinarySearchResult}
use Rattle.std.specs.Map.{keys_of}
use Rattle.std.specs.Cmp.{IsTotalOrder}
use Rattle.std.specs.declared.cmp.Ordering.{Ordering}
use Rattle.std.specs.declared.cmp.Ordering.TheVariants.{Less, Equal, Greater}
use Rattle.std.specs.Ordering.{is_eq, is_lt, ordering_reverse, match_ordering}
use Rattle.std.proofs.lemmas.List.Sorted.{searchable_from_sorted}
use Rattle.sf_types.proofs.NameMapLemmas.{sorted_from_ordered}
use Rattle.sf_room_map.proofs.EntryLemmas.{rising_from_sorted, sorted_with, sorted_without, with_values, sorted-values}
use Rattle.sf_room_map.specs.Entries.{value_for, with_value, without_key}
use Rattle.sf_sorted_map.specs.UpTo.{later_entry, entry_up_to}
use Rattle.sf_sorted_map.specs.Inside.Places.{IsFound, IsGap}

module _ {K : Type 0} (R : K → K → Ordering) (o : IsTotalOrder R) where
  turned_less : (x y : K) → R x y ≡ Less → R y x ≡ Greater
  turned_less x y is = o.antisymm y x ∙ ap ordering_reverse is

  turned_greater : (x y : K) → R x y ≡ Greater → R y x ≡ Less
  turned_greater x y is = o.antisymm y x ∙ ap ordering_reverse is

  turned_equal : (x y : K) → R x y ≡ Equal → R y x ≡ Equal
  turned_equal x y is = o.antisymm y x ∙ ap ordering_reverse is

-- the values of the first entries, changed one after the other
pub keys_changed : {K X : Type 0} (f : X → X) (es : List (K × X)) (at : ℕ) → keys_of (map (λ (e : K × X). (e.0, f e.1)) (take at es) ++ drop at es) ≡ keys_of es
keys_changed f [] zero = refl
keys_changed f [] (suc at) = refl
keys_changed f (e ∷ es) zero = refl
keys_changed {K} {X} f (e ∷ es) (suc at) = ap (λ (rest : List K). e.0 ∷ rest) (keys_changed f es at)

pub values_changed_at : {K X : Type 0} (f : X → X) (es : List (K × X)) (at : ℕ) (d : K × X) → at < length es → set (map (λ (e : K × X). (e.0, f e.1)) (take at es) ++ drop at es) at ((get_or (map (λ (e : K × X). (e.0, f e.1)) (take at es) ++ drop at es) at d).0, f (get_or (map (λ (e : K × X). (e.0, f e.1)) (take at es) ++ drop at es) at d).1) ≡ map (λ (e : K × X). (e.0, f e.1)) (take (suc at) es) ++ drop (suc at) es
values_changed_at f [] at d below = absurd (omega (arith, below))
values_changed_at f (e ∷ es) zero d below = refl
values_changed_at {K} {X} f (e ∷ es) (suc at) d below = ap (λ (rest : List (K × X)). (e.0, f e.1) ∷ rest) (values_changed_at f es at d (omega (arith, below)))

pub no_keys_rise : {K : Type 0} (R : K → K → Ordering) (X : Type 0) → IsStrictlySortedBy R (keys_of {X = X} [])
unfolding IsStrictlySortedBy
no_keys_rise R X = tt

pub values_changed_next : {K X : Type 0} (f : X → X) (es : List (K × X)) (at : ℕ) (d : K × X) → at < length es → set (map (λ (e : K × X). (e.0, f e.1)) (take at es) ++ drop at es) at ((get_or (map (λ (e : K × X). (e.0, f e.1)) (take at es) ++ drop at es) at d).0, f (get_or (map (λ (e : K × X). (e.0, f e.1)) (take at es) ++ drop at es) at d).1) ≡ map (λ (e : K × X). (e.0, f e.1)) (take (at + 1) es) ++ drop (at + 1) es
values_changed_next {K} {X} f es at d below = values_changed_at f es at d below ∙ ap (λ n. map (λ (e : K × X). (e.0, f e.1)) (take n es) ++ drop n es) {x = suc at} {y = at + 1} (omega arith)

module _ {K X : Type 0} (R : K → K → Ordering) where
  pub found_below : (es : List (K × X)) (k : K) (at : ℕ) → IsFound R es k at → at < length es
  found_below [] k at found = absurd found
  found_below (e ∷ es) k zero found = omega arith
  found_below (e ∷ es) k (suc at) found = omega (arith, found_below es k at found.1)

  pub gap_within : (es : List (K × X)) (k : K) (at : ℕ) → IsGap R es k at → at ≤ length es
  gap_within es k zero gap = omega arith
  gap_within [] k (suc at) gap = absurd gap
  gap_within (e ∷ es) k (suc at) gap = omega (arith, gap_within es k at gap.1)

  pub value_found : (es : List (K × X)) (k : K) (at : ℕ) (d : K × X) → IsFound R es k at → value_for R es k ≡ Some (get_or es at d).1
  value_found [] k at d found = absurd found
  value_found (e ∷ es) k zero d found = ap (λ r. cond (is_eq r) (Some e.1) (value_for R es k)) found.0
  value_found (e ∷ es) k (suc at) d found = ap (λ r. cond (is_eq r) (Some e.1) (value_for R es k)) found.0 ∙ value_found es k at d found.1

  value_below : (es : List (K × X)) (k : K) → AllByRecursion (λ other. R k other ≡ Less) (keys_of es) → value_for R es k ≡ None
  value_below [] k all = refl
  value_below (e ∷ es) k all = ap (λ r. cond (is_eq r) (Some e.1) (value_for R es k)) all.0 ∙ value_below es k all.1

  pub value_in_gap : (es : List (K × X)) (k : K) (at : ℕ) → IsGap R es k at → value_for R es k ≡ None
  value_in_gap es k zero gap = value_below es k gap
  value_in_gap [] k (suc at) gap = absurd gap
  value_in_gap (e ∷ es) k (suc at) gap = ap (λ r. cond (is_eq r) (Some e.1) (value_for R es k)) gap.0 ∙ value_in_gap es k at gap.1

  pub with_found : (es : List (K × X)) (k : K) (v : X) (at : ℕ) (d : K × X) → IsFound R es k at → with_value R es k v ≡ set es at ((get_or es at d).0, v)
  with_found [] k v at d found = absurd found
  with_found (e ∷ es) k v zero d found = ap (λ r. match_ordering r ((k, v) ∷ e ∷ es) ((e.0, v) ∷ es) (e ∷ with_value R es k v)) found.0
  with_found (e ∷ es) k v (suc at) d found =
      ap (λ r. match_ordering r ((k, v) ∷ e ∷ es) ((e.0, v) ∷ es) (e ∷ with_value R es k v)) found.0
      ∙ ap (λ (rest : List (K × X)). e ∷ rest) (with_found es k v at d found.1)

  pub with_in_gap : (es : List (K × X)) (k : K) (v : X) (at : ℕ) → IsGap R es k at → with_value R es k v ≡ insert es at (k, v)
  with_in_gap [] k v zero gap = refl
  with_in_gap (e ∷ es) k v zero gap = ap (λ r. match_ordering r ((k, v) ∷ e ∷ es) ((e.0, v) ∷ es) (e ∷ with_value R es k v)) gap.0
  with_in_gap [] k v (suc at) gap = absurd gap
  with_in_gap (e ∷ es) k v (suc at) gap =
      ap (λ r. match_ordering r ((k, v) ∷ e ∷ es) ((e.0, v) ∷ es) (e ∷ with_value R es k v)) gap.0
      ∙ ap (λ (rest : List (K × X)). e ∷ rest) (with_in_gap es k v at gap.1)

  pub without_found : (es : List (K × X)) (k : K) (at : ℕ) → IsFound R es k at → without_key R es k ≡ remove es at
  without_found [] k at found = absurd found
  without_found (e ∷ es) k zero found = ap (λ r. cond (is_eq r) es (e ∷ without_key R es k)) found.0
  without_found (e ∷ es) k (suc at) found =
      ap (λ r. cond (is_eq r) es (e ∷ without_key R es k)) found.0 ∙ ap (λ (rest : List (K × X)). e ∷ rest) (without_found es k at found.1)

  without_below : (es : List (K × X)) (k : K) → AllByRecursion (λ other. R k other ≡ Less) (keys_of es) → without_key R es k ≡ es
  without_below [] k all = refl
  without_below (e ∷ es) k all = ap (λ r. cond (is_eq r) es (e ∷ without_key R es k)) all.0 ∙ ap (λ (rest : List (K × X)). e ∷ rest) (without_below es k all.1)

  pub without_in_gap : (es : List (K × X)) (k : K) (at : ℕ) → IsGap R es k at → without_key R es k ≡ es
  without_in_gap es k zero gap = without_below es k gap
  without_in_gap [] k (suc at) gap = absurd gap
  without_in_gap (e ∷ es) k (suc at) gap = ap (λ r. cond (is_eq r) es (e ∷ without_key R es k)) gap.0 ∙ ap (λ (rest : List (K × X)). e ∷ rest) (without_in_gap es k at gap.1)

  none_up_to : (es : List (K × X)) (k : K) → AllByRecursion (λ other. R k other ≡ Less) (keys_of es) → entry_up_to R es k ≡ None
  none_up_to [] k all = refl
  none_up_to (e ∷ es) k all =
      ap (λ r. later_entry (if is_lt r then None else Some e) (entry_up_to R es k)) all.0 ∙ ap (later_entry {A = K × X} None) (none_up_to es k all.1)

  up_to_found : (es : List (K × X)) (k : K) (at : ℕ) (d : K × X) → IsFound R es k at → entry_up_to R es k ≡ Some (get_or es at d)
  up_to_found [] k at d found = absurd found
  up_to_found (e ∷ es) k zero d found =
      ap (λ r. later_entry (if is_lt r then None else Some e) (entry_up_to R es k)) found.0 ∙ ap (later_entry (Some e)) (none_up_to es k found.1)
  up_to_found (e ∷ es) k (suc at) d found =
      ap (λ r. later_entry (if is_lt r then None else Some e) (entry_up_to R es k)) found.0 ∙ ap (later_entry (Some e)) (up_to_found es k at d found.1)

  up_to_gap : (es : List (K × X)) (k : K) (at : ℕ) (d : K × X) → IsGap R es k (suc at) → entry_up_to R es k ≡ Some (get_or es at d)
  up_to_gap [] k at d gap = absurd gap
  up_to_gap (e ∷ es) k zero d gap =
      ap (λ r. later_entry (if is_lt r then None else Some e) (entry_up_to R es k)) gap.0 ∙ ap (later_entry (Some e)) (none_up_to es k gap.1)
  up_to_gap (e ∷ es) k (suc at) d gap =
      ap (λ r. later_entry (if is_lt r then None else Some e) (entry_up_to R es k)) gap.0 ∙ ap (later_entry (Some e)) (up_to_gap es k at d gap.1)

  entry_read : (es : List (K × X)) (at : ℕ) (d : K × X) → at < length es → slice_get es at ≡ Some (get_or es at d)
  entry_read [] at d below = absurd (omega (arith, below))
  entry_read (e ∷ es) zero d below = refl
  entry_read (e ∷ es) (suc at) d below = entry_read es at d (omega (arith, below))

  -- the last entry up to a key, where the key is found and where it would go
  pub found_up_to : (es : List (K × X)) (k : K) (at : ℕ) → IsFound R es k at → entry_up_to R es k ≡ slice_get es at
  found_up_to [] k at found = absurd found
  found_up_to (e ∷ es) k at found = up_to_found (e ∷ es) k at e found ∙ sym (entry_read (e ∷ es) at e (found_below (e ∷ es) k at found))

  gap_at : (es : List (K × X)) (k : K) (at : ℕ) → IsGap R es k (suc at) → entry_up_to R es k ≡ slice_get es at
  gap_at [] k at gap = absurd gap
  gap_at (e ∷ es) k at gap = up_to_gap (e ∷ es) k at e gap ∙ sym (entry_read (e ∷ es) at e (omega (arith, gap_within (e ∷ es) k (suc at) gap)))

  pub gap_up_to : (es : List (K × X)) (k : K) (at : ℕ) → 1 ≤ at → IsGap R es k at → entry_up_to R es k ≡ slice_get es (at - 1)
  gap_up_to es k zero one gap = absurd (omega (arith, one))
  gap_up_to es k (suc at) one gap = gap_at es k at gap ∙ ap (slice_get es) (omega arith)

  pub none_below_gap : (es : List (K × X)) (k : K) → IsGap R es k 0 → entry_up_to R es k ≡ None
  none_below_gap es k gap = none_up_to es k gap

  key_at : (P : K → Type 0) (es : List (K × X)) (at : ℕ) (d : K × X) → AllByRecursion P (keys_of es) → at < length es → P (get_or es at d).0
  key_at P [] at d all below = absurd (omega (arith, below))
  key_at P (e ∷ es) zero d all below = all.0
  key_at P (e ∷ es) (suc at) d all below = key_at P es at d all.1 (omega (arith, below))

  module _ (o : IsTotalOrder R) where
    pair_sorted : (es : List (K × X)) (j : ℕ) (d : K × X) → IsStrictlySortedBy R (keys_of es) → j + 1 < length es → is_lt (R (get_or es (suc j) d).0 (get_or es j d).0) ≡ false
    unfolding IsStrictlySortedBy
    pair_sorted [] j d rising below = absurd (omega (arith, below))
    pair_sorted (e ∷ es) zero d rising below = ap is_lt (turned_less R o e.0 (get_or es 0 d).0 (key_at (λ y. R e.0 y ≡ Less) es 0 d rising.0 (omega (arith, below))))
    pair_sorted (e ∷ es) (suc j) d rising below = pair_sorted es j d rising.1 (omega (arith, below))

    pairs_sorted : (es : List (K × X)) → IsStrictlySortedBy R (keys_of es) → IsSortedBy (λ (a b : K × X). is_lt (R a.0 b.0)) es
    pairs_sorted es rising j d from below = subst (λ n. is_lt (R (get_or es n d).0 (get_or es j d).0) ≡ false) {x = suc j} (omega arith) (pair_sorted es j d rising below)

    all_less : (es : List (K × X)) (x k : K) → R k x ≡ Equal → AllByRecursion (λ y. R x y ≡ Less) (keys_of es) → AllByRecursion (λ y. R k y ≡ Less) (keys_of es)
    all_less [] x k tie all = tt
    all_less (e ∷ es) x k tie all = (o.congr k x e.0 tie ∙ all.0, all_less es x k tie all.1)

    found_from : (es : List (K × X)) (k : K) (at : ℕ) → IsStrictlySortedBy R (keys_of es) → at < length es → ((d : K × X) → R (get_or es at d).0 k ≡ Equal) → IsFound R es k at
    unfolding IsStrictlySortedBy
    found_from [] k at rising below is = absurd (omega (arith, below))
    found_from (e ∷ es) k zero rising below is = (turned_equal R o e.0 k (is e), all_less es e.0 k (turned_equal R o e.0 k (is e)) rising.0)
    found_from (e ∷ es) k (suc at) rising below is =
        let other = (get_or es at e).0 in
        let lesser : R e.0 other ≡ Less = key_at (λ y. R e.0 y ≡ Less) es at e rising.0 (omega (arith, below)) in
        let lesser_key : R k e.0 ≡ Greater = sym (o.congr other k e.0 (is e)) ∙ turned_less R o e.0 other lesser in
        (lesser_key, found_from es k at rising.1 (omega (arith, below)) is)

    all_greater : (es : List (K × X)) (k : K) → ((j : ℕ) (d : K × X) → 0 ≤ j → j < length es → R (get_or es j d).0 k ≡ Greater) → AllByRecursion (λ other. R k other ≡ Less) (keys_of es)
    all_greater [] k after = tt
    all_greater (e ∷ es) k after =
        (turned_greater R o e.0 k (after 0 e (omega arith) (omega arith)), all_greater es k (λ j d from below. after (suc j) d (omega arith) (omega (arith, below))))

    gap_from : (es : List (K × X)) (k : K) (at : ℕ) → at ≤ length es → ((j : ℕ) (d : K × X) → 0 ≤ j → j < at → R (get_or es j d).0 k ≡ Less) → ((j : ℕ) (d : K × X) → at ≤ j → j < length es → R (get_or es j d).0 k ≡ Greater) → IsGap R es k at
    gap_from es k zero within before after = all_greater es k after
    gap_from [] k (suc at) within before after = absurd (omega (arith, within))
    gap_from (e ∷ es) k (suc at) within before after = (
      turned_less R o e.0 k (before 0 e (omega arith) (omega arith)),
      gap_from es k at (omega (arith, within)) (λ j d from below. before (suc j) d (omega arith) (omega (arith, below)))
          (λ j d from below. after (suc j) d (omega (arith, from)) (omega (arith, below))),
    )

    -- what a binary search answers of entries whose keys rise
    pub search_found : (es : List (K × X)) (k : K) (r : Result ℕ ℕ) → IsStrictlySortedBy R (keys_of es) → IsSearchInRange r (length es) → IsBinarySearchResult (λ (e : K × X). R e.0 k) es r → IfOk r (IsFound R es k)
    search_found es k (Ok at) rising within is = found_from es k at rising within is
    search_found es k (Err at) rising within is = tt

    pub search_gap : (es : List (K × X)) (k : K) (r : Result ℕ ℕ) → IsStrictlySortedBy R (keys_of es) → IsSearchInRange r (length es) → IsBinarySearchResult (λ (e : K × X). R e.0 k) es r → IfErr r (IsGap R es k)
    search_gap es k (Ok at) rising within is = tt
    search_gap es k (Err at) rising within is =
        let parts = is (searchable_from_sorted o (λ (e : K × X). e.0) es k (pairs_sorted es rising)) in
        gap_from es k at within parts.0 parts.1

    -- keys still rise after a change
    pub rising_with : (es : List (K × X)) (k : K) (v : X) → IsStrictlySortedBy R (keys_of es) → IsStrictlySortedBy R (keys_of (with_value R es k v))
    rising_with es k v rising = rising_from_sorted R (with_value R es k v) (sorted_with R o es k v (sorted_from_ordered R es rising))

    pub rising_values : (f : X → X) (es : List (K × X)) → IsStrictlySortedBy R (keys_of es) → IsStrictlySortedBy R (keys_of (map (λ (e : K × X). (e.0, f e.1)) es))
    rising_values f es rising = rising_from_sorted R (with_values R f es) (sorted-values R f es (sorted_from_ordered R es rising))

    pub rising_without : (es : List (K × X)) (k : K) → IsStrictlySortedBy R (keys_of es) → IsStrictlySortedBy R (keys_of (without_key R es k))
    rising_without es k rising = rising_from_sorted R (without_key R es k) (sorted_without R o k es (sorted_from_ordered R es rising))
