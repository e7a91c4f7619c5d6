-- The entries of a hash map in the order of their keys.
use Rattle.std.proofs.Common.{◌≡◌, ℕ, ◌+◌, ◌<◌, Bool, false, cond, List, [], ◌∷◌, length, map, get_or, Bor, Option, Some, None, refl, sym, ap, subst, ◌∙◌, arith}
use Rattle.std.specs.declared.cmp.Ordering.{Ordering}
use Rattle.std.specs.declared.cmp.Ordering.TheVariants.{Less, Equal, Greater}
use Rattle.std.specs.Ordering.{eq_by_cmp, is_lt, is_eq, ordering_reverse}
use Rattle.std.specs.Cmp.{IsTotalOrder, eq_by_cmp_equiv}
use Rattle.std.specs.List.{AllByRecursion, IsDistinct, slice_get, Contains}
use Rattle.std.specs.List.Sorted.{IsPermutation, IsSortedBy}
use Rattle.std.specs.Map.{lookup, keys_of}
use Rattle.std.specs.Map.Iter.{deref_pair}
use Rattle.std.specs.HashMap.{HashMap, get, IsUnique}
use Rattle.std.specs.FinMap.{IsAntisymmetric}
use Rattle.std.specs.FinMap.Entries as fin
use Rattle.std.proofs.lemmas.Map.Entries.{place_from_lookup, lookup_from_place, length-keys_of}
use Rattle.std.proofs.lemmas.Map.Keys.{IsDistinct-IsPermutation, sorted_from_all_adjacent, apart_from_distinct}
use Rattle.std.proofs.lemmas.List.Sorted.{IsPermutation-map, IsPermutation-sym, Contains-permutation, length_permutation}
use Rattle.std.proofs.lemmas.List.{get_or-map, length-map}
use Rattle.std.proofs.lemmas.Option.{slice_get-get_or, slice_get_within}
use Rattle.sf_types.proofs.NameMapLemmas.{equal, sorted_from_ordered}
use Rattle.sf_room_map.specs.Entries.{value_for, with_value, without_key}
use Rattle.sf_room_map.specs.Inside.Sorted.{sorted_entries}
use Rattle.sf_room_map.proofs.EntryLemmas.{no_length, find_is, are_sorted, length_sorted, find_sorted, same_values, sorted_with, sorted_without, value_for-with, value_for-without}

find_by : {K X : Type 0} (R : K → K → Ordering) (eq : K → K → Bool) → ((a b : K) → eq a b ≡ eq_by_cmp R a b) → (es : List (K × X)) (q : K) → fin.find R q es ≡ lookup (eq q) es
find_by R eq ties [] q = refl
find_by R eq ties (e ∷ es) q = ap (λ b. cond b (Some e.1) (fin.find R q es)) (sym (ties q e.0)) ∙ ap (cond (eq q e.0) (Some e.1)) (find_by R eq ties es q)

all_by : {K : Type 0} (R : K → K → Ordering) (eq : K → K → Bool) → ((a b : K) → eq a b ≡ eq_by_cmp R a b) → (k : K) (ks : List K) → AllByRecursion (λ y. eq k y ≡ false) ks → AllByRecursion (λ y. eq_by_cmp R k y ≡ false) ks
all_by R eq ties k [] all = tt
all_by R eq ties k (y ∷ ks) all = (sym (ties k y) ∙ all.0, all_by R eq ties k ks all.1)

-- keys that are apart by one of two tests that agree are apart by the other
pub apart_by : {K : Type 0} (R : K → K → Ordering) (eq : K → K → Bool) → ((a b : K) → eq a b ≡ eq_by_cmp R a b) → (ks : List K) → IsDistinct eq ks → IsDistinct (eq_by_cmp R) ks
unfolding IsDistinct
apart_by R eq ties [] apart = tt
apart_by R eq ties (k ∷ ks) apart = (all_by R eq ties k ks apart.0, apart_by R eq ties ks apart.1)

module _ {K X S : Type 0} (R : K → K → Ordering) (eq : K → K → Bool) (o : IsTotalOrder R) (exact : IsAntisymmetric R) (ties : (a b : K) → eq a b ≡ eq_by_cmp R a b) where
  -- a look-up in them
  pub get_is : (m : HashMap K X S) (q : K) → value_for R (sorted_entries R m.entries) q ≡ get eq m q
  get_is m q = find_sorted R o m.entries q ∙ find_by R eq ties m.entries q

  -- they are as many
  pub length_is : (m : HashMap K X S) → IsUnique eq m → length (sorted_entries R m.entries) ≡ length m.entries
  length_is m unique = length_sorted R o m.entries (apart_by R eq ties (keys_of m.entries) unique)

  -- they are the same in any order
  pub reordered : (m n : HashMap K X S) → ((q : K) → get eq n q ≡ get eq m q) → sorted_entries R n.entries ≡ sorted_entries R m.entries
  reordered m n is = same_values R o exact _ _ (are_sorted R o n.entries) (are_sorted R o m.entries) (λ q. get_is n q ∙ is q ∙ sym (get_is m q))

  -- after a value was put at a key, and after a key was taken out
  pub put_at : (m n : HashMap K X S) (k : K) (v : X) → ((q : K) → get eq n q ≡ cond (eq k q) (Some v) (get eq m q)) → sorted_entries R n.entries ≡ with_value R (sorted_entries R m.entries) k v
  put_at m n k v is =
      let old = sorted_entries R m.entries in
      same_values R o exact _ _ (are_sorted R o n.entries) (sorted_with R o old k v (are_sorted R o m.entries)) (λ q.
      get_is n q ∙ is q
      ∙ ap (λ b. cond b (Some v) (get eq m q)) (ties k q ∙ (eq_by_cmp_equiv o).symm k q)
      ∙ ap (cond (eq_by_cmp R q k) (Some v)) (sym (get_is m q))
      ∙ sym (value_for-with R o old k v q))

  pub taken_out : (m n : HashMap K X S) (k : K) → ((q : K) → get eq n q ≡ cond (eq k q) None (get eq m q)) → sorted_entries R n.entries ≡ without_key R (sorted_entries R m.entries) k
  taken_out m n k is =
      let old = sorted_entries R m.entries in
      same_values R o exact _ _ (are_sorted R o n.entries) (sorted_without R o k old (are_sorted R o m.entries)) (λ q.
      get_is n q ∙ is q
      ∙ ap (λ b. cond b None (get eq m q)) (ties k q ∙ (eq_by_cmp_equiv o).symm k q)
      ∙ ap (cond (eq_by_cmp R q k) None) (sym (get_is m q))
      ∙ sym (value_for-without R o old k q (are_sorted R o m.entries)))

both_found : {X : Type 0} (x y : Option X) → ((v : X) → x ≡ Some v → y ≡ Some v) → ((v : X) → y ≡ Some v → x ≡ Some v) → x ≡ y
both_found None None there back = refl
both_found None (Some v) there back = absurd (let bad = back v refl in cc)
both_found (Some v) y there back = sym (there v refl)

next_less : {K : Type 0} (R : K → K → Ordering) → IsTotalOrder R → (x y : K) → is_lt (R y x) ≡ false → eq_by_cmp R x y ≡ false → R x y ≡ Less
next_less R o x y not_less apart =
    elim (R y x) as (λ r. R x y ≡ ordering_reverse r → is_lt r ≡ false → R x y ≡ Less) [
      | Less ↦ λ turn bad. absurd cc
      | Equal ↦ λ turn _. absurd (let tie = sym apart ∙ ap is_eq turn in cc)
      | Greater ↦ λ turn _. turn
    ] (o.antisymm x y) not_less

module _ {K X : Type 0} (R : K → K → Ordering) (o : IsTotalOrder R) (exact : IsAntisymmetric R) where
  -- what one list has at a key another has that holds the same entries
  found_again : (es fs : List (K × X)) (q : K) (v : X) → IsDistinct (eq_by_cmp R) (keys_of fs) → IsPermutation es fs → lookup (eq_by_cmp R q) es ≡ Some v → lookup (eq_by_cmp R q) fs ≡ Some v
  found_again es fs q v apart moved is =
      let place = place_from_lookup (eq_by_cmp R q) es v is in
      let less = slice_get_within es place.0 (place.1, v) place.2 in
      let there : Contains fs (place.1, v) = Contains-permutation es fs (place.1, v) moved (place.0, less, entry es place.0 (place.1, v) place.2) in
      let same : q ≡ place.1 = exact q place.1 (equal (R q place.1) place.3) in
      subst (λ k. lookup (eq_by_cmp R k) fs ≡ Some v) (sym same)
      (lookup_from_place (eq_by_cmp_equiv o) fs there.0 place.1 v apart (slice_get-get_or fs there.0 (place.1, v) there.1 ∙ ap Some there.2))
    where
      some : (x y : K × X) → ◌≡◌ {A = Option (K × X)} (Some x) (Some y) → x ≡ y
      some x y is = cc

      entry : (es : List (K × X)) (i : ℕ) (e : K × X) → slice_get es i ≡ Some e → get_or es i e ≡ e
      entry es i e is = some _ _ (sym (slice_get-get_or es i e (slice_get_within es i e is)) ∙ is)

  listed_from : (es fs : List (K × X)) → K → IsDistinct (eq_by_cmp R) (keys_of es) → IsPermutation es fs → ((i : ℕ) (d : K) → i + 1 < length (keys_of fs) → is_lt (R (get_or (keys_of fs) (i + 1) d) (get_or (keys_of fs) i d)) ≡ false) → fs ≡ sorted_entries R es
  listed_from es fs d apart moved sorted =
      let apart_fs = IsDistinct-IsPermutation (eq_by_cmp R) (eq_by_cmp_equiv o).symm (keys_of es) (keys_of fs) (IsPermutation-map (λ e. e.0) es fs moved) apart in
      let rising = sorted_from_all_adjacent o (keys_of fs) d (λ i less. next_less R o _ _ (sorted i d less) (apart_from_distinct (eq_by_cmp R) (keys_of fs) i (i + 1) d apart_fs (omega arith) less)) in
      same_values R o exact fs (sorted_entries R es) (sorted_from_ordered R fs rising) (are_sorted R o es) (λ q.
      find_is R fs q ∙ find_by R (eq_by_cmp R) (λ a b. refl) fs q
      ∙ both_found _ _ (λ v. found_again fs es q v apart (IsPermutation-sym es fs moved)) (λ v. found_again es fs q v apart_fs moved)
      ∙ sym (find_sorted R o es q ∙ find_by R (eq_by_cmp R) (λ a b. refl) es q))

  -- entries that were put in the order of their keys
  pub listed : (es fs : List (K × X)) → IsDistinct (eq_by_cmp R) (keys_of es) → IsPermutation es fs → ((i : ℕ) (d : K) → i + 1 < length (keys_of fs) → is_lt (R (get_or (keys_of fs) (i + 1) d) (get_or (keys_of fs) i d)) ≡ false) → fs ≡ sorted_entries R es
  listed [] fs apart moved sorted = no_length fs (length_permutation [] fs moved)
  listed (e ∷ es) fs apart moved sorted = listed_from (e ∷ es) fs e.0 apart moved sorted

  -- references to entries, put in the order of the keys
  pub shown : (es : List (K × X)) (before after : List (Bor K × Bor X)) → IsDistinct (eq_by_cmp R) (keys_of es) → map deref_pair before ≡ es → IsPermutation before after → IsSortedBy (λ a b. is_lt (R a.0.now b.0.now)) after → map deref_pair after ≡ sorted_entries R es
  shown es before after apart shows moved sorted =
      listed es (map deref_pair after) apart (subst (λ xs. IsPermutation xs (map deref_pair after)) shows (IsPermutation-map deref_pair before after moved)) (λ i d less. adjacent after i d less sorted)
    where
      key_at : (ps : List (Bor K × Bor X)) (i : ℕ) (p : Bor K × Bor X) (d : K) → i < length ps → get_or (keys_of (map deref_pair ps)) i d ≡ (get_or ps i p).0.now
      key_at ps i p d less =
          get_or-map (λ (e : K × X). e.0) (map deref_pair ps) i (deref_pair p) d (omega (arith, less, length-map {B = K × X} ps deref_pair))
          ∙ ap (λ (e : K × X). e.0) (get_or-map deref_pair ps i p (deref_pair p) less)

      adjacent : (after : List (Bor K × Bor X)) (i : ℕ) (d : K) → i + 1 < length (keys_of (map deref_pair after)) → IsSortedBy (λ a b. is_lt (R a.0.now b.0.now)) after → is_lt (R (get_or (keys_of (map deref_pair after)) (i + 1) d) (get_or (keys_of (map deref_pair after)) i d)) ≡ false
      adjacent [] i d less sorted = absurd (omega (arith, less))
      adjacent (p ∷ after) i d less sorted =
          let all = p ∷ after in
          let within : i + 1 < length all = omega (arith, less, length-keys_of (map deref_pair all), length-map {B = K × X} all deref_pair) in
          let before : i < length all = omega (arith, within) in
          ap (λ k. is_lt (R k (get_or (keys_of (map deref_pair all)) i d))) (key_at all (i + 1) p d within)
          ∙ ap (λ k. is_lt (R (get_or all (i + 1) p).0.now k)) (key_at all i p d before)
          ∙ sorted i p (omega arith) within
