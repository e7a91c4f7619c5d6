-- A walk over rows in the order of their names.
use Rattle.std.proofs.Common.{◌≡◌, ℕ, zero, suc, ◌+◌, Bool, true, false, List, [], ◌∷◌, ◌++◌, take, drop, Some, refl, sym, ap, subst, ◌∙◌, add-one}
use Rattle.std.specs.Prelude.{All, ◌||◌, slice_get}
use Rattle.std.specs.List.{AllByRecursion as Each, list_any}
use Rattle.std.specs.Option.{option_map_or}
use Rattle.std.specs.Map.{keys_of}
use Rattle.std.specs.List.Sorted.{IsStrictlySortedBy}
use Rattle.std.specs.declared.cmp.Ordering.TheVariants.{Less}
use Rattle.std.proofs.lemmas.List.Elements.{All-from_recursion}
use Rattle.sf_types.specs.Values.Names.{name_cmp}
use Rattle.sf_types.specs.Inside.NameMaps.{NameMap}

any_at : {X : Type 0} (f : X → Bool) (xs : List X) (k : ℕ) → list_any f (drop k xs) ≡ (option_map_or f (slice_get xs k) false || list_any f (drop (suc k) xs))
any_at f [] zero = refl
any_at f [] (suc k) = refl
any_at f (x ∷ xs) zero = refl
any_at f (x ∷ xs) (suc k) = any_at f xs k

-- the k-th element passes
pub any_here : {X : Type 0} (f : X → Bool) (xs : List X) (k : ℕ) (all : Bool) → list_any f (drop k xs) ≡ all → option_map_or f (slice_get xs k) false ≡ true → true ≡ all
any_here f xs k all is here = sym (any_at f xs k ∙ ap (λ b. b || list_any f (drop (suc k) xs)) here) ∙ is

-- the k-th element doesn't pass
pub any_later : {X : Type 0} (f : X → Bool) (xs : List X) (k : ℕ) (all : Bool) → list_any f (drop k xs) ≡ all → option_map_or f (slice_get xs k) false ≡ false → list_any f (drop (k + 1) xs) ≡ all
any_later f xs k all is here =
    ap (λ j. list_any f (drop j xs)) (add-one k)
    ∙ sym (any_at f xs k ∙ ap (λ b. b || list_any f (drop (suc k) xs)) here)
    ∙ is

-- the first k + 1 elements
pub taken_next : {X : Type 0} (xs : List X) (k : ℕ) (x : X) → slice_get xs k ≡ Some x → take (k + 1) xs ≡ take k xs ++ x ∷ []
taken_next {X = X} xs k x is = ap (λ j. take j xs) (add-one k) ∙ next xs k is
  where
    next : (xs : List X) (k : ℕ) → slice_get xs k ≡ Some x → take (suc k) xs ≡ take k xs ++ x ∷ []
    next [] k is = absurd cc
    next (y ∷ xs) zero is = let same : y ≡ x = cc in ap (λ z. z ∷ []) same
    next (y ∷ xs) (suc k) is = ap (λ zs. y ∷ zs) (next xs k is)

each_before : {X : Type 0} (m : NameMap X) (k : ℕ) (e : List ℕ × X) → IsStrictlySortedBy name_cmp (keys_of m) → slice_get m k ≡ Some e → Each (λ other. name_cmp other.0 e.0 ≡ Less) (take k m)
unfolding IsStrictlySortedBy
each_before [] zero e rising is = tt
each_before [] (suc k) e rising is = tt
each_before (x ∷ m) zero e rising is = tt
each_before {X = X} (x ∷ m) (suc k) e rising is = (less m k rising.0 is, each_before m k e rising.1 is)
  where
    less : (m : NameMap X) (k : ℕ) → Each (λ name. name_cmp x.0 name ≡ Less) (keys_of m) → slice_get m k ≡ Some e → name_cmp x.0 e.0 ≡ Less
    less [] k all is = absurd cc
    less (y ∷ m) zero all is = let same : y ≡ e = cc in subst (λ (z : List ℕ × X). name_cmp x.0 z.0 ≡ Less) same all.0
    less (y ∷ m) (suc k) all is = less m k all.1 is

-- the names before the k-th come before it
pub all_before : {X : Type 0} (m : NameMap X) (k : ℕ) (e : List ℕ × X) → IsStrictlySortedBy name_cmp (keys_of m) → slice_get m k ≡ Some e → All (λ other. name_cmp other.0 e.0 ≡ Less) (take k m)
all_before m k e rising is = All-from_recursion (λ other. name_cmp other.0 e.0 ≡ Less) (take k m) (each_before m k e rising is)
