-- Finite maps from names: what they have after a change, and when two are the same.
use Rattle.std.proofs.Common.{◌≡◌, ℕ, true, cond, List, [], ◌∷◌, Some, None, refl, sym, ap, subst, ◌∙◌}
use Rattle.std.specs.Prelude.{T}
use Rattle.std.specs.List.{AllByRecursion}
use Rattle.std.specs.List.Sorted.{IsStrictlySortedBy}
use Rattle.std.specs.declared.cmp.Ordering.{Ordering}
use Rattle.std.specs.declared.cmp.Ordering.TheVariants.{Less, Equal, Greater}
use Rattle.std.specs.Ordering.{is_eq, is_lt, match_ordering}
use Rattle.std.specs.Cmp.Lexicographic.{nat_list_cmp_total}
use Rattle.std.specs.Map.{keys_of}
use Rattle.std.specs.FinMap.{nat_cmp-IsAntisymmetric, slice_cmp-IsAntisymmetric}
use Rattle.std.specs.FinMap.Entries as fin
use Rattle.std.proofs.lemmas.Cmp.{tied_itself}
use Rattle.sf_types.specs.Values.Names.{name_cmp}
use Rattle.sf_types.proofs.BoolLemmas.{both, first, second}
use Rattle.sf_types.specs.Inside.NameMaps.{NameMap, is_same_name, get, with_entry, without_entry}

-- std's words for maps and those of finite maps say the same
insert_entry-is : {X : Type 0} (m : NameMap X) (k : List ℕ) (v : X) → with_entry m k v ≡ fin.put name_cmp k v m
insert_entry-is [] k v = refl
insert_entry-is (e ∷ m) k v = ap (λ r. match_ordering (name_cmp k e.0) ((k, v) ∷ e ∷ m) ((e.0, v) ∷ m) (e ∷ r)) (insert_entry-is m k v)

pub lookup-is : {X : Type 0} (m : NameMap X) (q : List ℕ) → get m q ≡ fin.find name_cmp q m
lookup-is [] q = refl
lookup-is (e ∷ m) q = ap (cond (is_same_name q e.0) (Some e.1)) (lookup-is m q)

-- what a map has at a name after a value was put
pub get-put : {X : Type 0} (m : NameMap X) (k : List ℕ) (v : X) (q : List ℕ) → get (with_entry m k v) q ≡ cond (is_same_name q k) (Some v) (get m q)
get-put m k v q =
    ap (λ n. get n q) (insert_entry-is m k v)
    ∙ lookup-is (fin.put name_cmp k v m) q
    ∙ fin.find-put name_cmp nat_list_cmp_total q k v m
    ∙ ap (cond (is_same_name q k) (Some v)) (sym (lookup-is m q))

-- to put a value at a new name and to take it away again
pub without-put : {X : Type 0} (m : NameMap X) (k : List ℕ) (v : X) → get m k ≡ None → without_entry (with_entry m k v) k ≡ m
without-put [] k v none = rw (tied_itself nat_list_cmp_total k) refl
without-put (e ∷ m) k v none =
    elim (name_cmp k e.0) as (λ r. cond (is_eq r) (Some e.1) (get m k) ≡ None → name_cmp k e.0 ≡ r → without_entry (match_ordering r ((k, v) ∷ e ∷ m) ((e.0, v) ∷ m) (e ∷ with_entry m k v)) k ≡ e ∷ m) [
      | Less ↦ λ h is. rw (tied_itself nat_list_cmp_total k) refl
      | Equal ↦ λ h is. absurd cc
      | Greater ↦ λ h is. rw is (ap (λ n. e ∷ n) (without-put m k v h))
    ] none refl

-- the names of a map rise
unfoldable pub IsRisingMap : {X : Type 0} → NameMap X → Type 0
IsRisingMap m = T (fin.is_sorted name_cmp m)

pub rising_empty : (X : Type 0) → IsRisingMap {X = X} []
unfolding IsRisingMap
rising_empty X = tt

pub rising-put : {X : Type 0} (m : NameMap X) (k : List ℕ) (v : X) → IsRisingMap m → IsRisingMap (with_entry m k v)
unfolding IsRisingMap
rising-put m k v rising = rw insert_entry-is (fin.is_sorted-put name_cmp nat_list_cmp_total k v m rising)

pub ordering_less : (r : Ordering) → T (is_lt r) → r ≡ Less
ordering_less Less p = refl
ordering_less Equal p = absurd p
ordering_less Greater p = absurd p

pub equal : (r : Ordering) → is_eq r ≡ true → r ≡ Equal
equal Less p = absurd cc
equal Equal p = refl
equal Greater p = absurd cc

-- names that compare as one are one
pub same_name : (a b : List ℕ) → is_same_name a b ≡ true → a ≡ b
same_name a b is = slice_cmp-IsAntisymmetric nat_cmp-IsAntisymmetric a b (equal (name_cmp a b) is)

below_from_all : {K X : Type 0} (order : K → K → Ordering) (x : K) (m : List (K × X)) → AllByRecursion (λ y. order x y ≡ Less) (keys_of m) → T (fin.below_all order x m)
below_from_all order x [] all = tt
below_from_all order x (e ∷ m) all = both (is_lt (order x e.0)) (fin.below_all order x m) (subst (λ r. T (is_lt r)) (sym all.0) tt) (below_from_all order x m all.1)

-- entries whose keys rise are sorted, by any order
pub sorted_from_ordered : {K X : Type 0} (order : K → K → Ordering) (m : List (K × X)) → IsStrictlySortedBy order (keys_of m) → T (fin.is_sorted order m)
unfolding IsStrictlySortedBy
sorted_from_ordered order [] ordered = tt
sorted_from_ordered order (e ∷ m) ordered = both (fin.below_all order e.0 m) (fin.is_sorted order m) (below_from_all order e.0 m ordered.0) (sorted_from_ordered order m ordered.1)

-- the entries of a tree of std rise
pub rising_from_ordered : {X : Type 0} (m : NameMap X) → IsStrictlySortedBy name_cmp (keys_of m) → IsRisingMap m
unfolding IsRisingMap
rising_from_ordered m ordered = sorted_from_ordered name_cmp m ordered

-- a name that is below all of a map isn't in it
pub absent_below : {X : Type 0} (x : List ℕ) (m : NameMap X) → T (fin.below_all name_cmp x m) → get m x ≡ None
absent_below x [] below = refl
absent_below x (e ∷ m) below =
    let lt : name_cmp x e.0 ≡ Less = ordering_less (name_cmp x e.0) (first (is_lt (name_cmp x e.0)) (fin.below_all name_cmp x m) below) in
    rw lt (absent_below x m (second (is_lt (name_cmp x e.0)) (fin.below_all name_cmp x m) below))
