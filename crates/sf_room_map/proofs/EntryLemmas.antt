-- Entries whose keys rise: what they have at a key, and what a change leaves.
use Rattle.std.proofs.Common.{◌≡◌, ℕ, ◌+◌, ◌<◌, ◌≤◌, Bool, true, false, cond, not, List, [], ◌∷◌, length, map, Option, Some, None, ◌⊎◌, inl, inr, refl, sym, ap, subst, ◌∙◌, arith}
use Rattle.std.specs.Prelude.{T, is_some, find, filter}
use Rattle.std.specs.declared.cmp.Ordering.{Ordering}
use Rattle.std.specs.declared.cmp.Ordering.TheVariants.{Less, Equal, Greater}
use Rattle.std.specs.Ordering.{is_eq, is_lt, eq_by_cmp, match_ordering}
use Rattle.std.specs.Cmp.{IsTotalOrder, eq_by_cmp_equiv, alike_right}
use Rattle.std.specs.List.{AllByRecursion, IsDistinct}
use Rattle.std.specs.List.Sorted.{IsStrictlySortedBy}
use Rattle.std.specs.Map.{keys_of}
use Rattle.std.specs.FinMap.{IsAntisymmetric}
use Rattle.std.specs.FinMap.Entries as fin
use Rattle.sf_types.proofs.BoolLemmas.{both, first, second}
use Rattle.sf_types.proofs.NameMapLemmas.{ordering_less, equal}
use Rattle.sf_room_map.specs.Entries.{value_for, with_value, without_key}
use Rattle.sf_room_map.specs.Inside.Sorted.{sorted_entries}

turned : {A : Type 0} (b : Bool) (x y : A) → cond (not b) x y ≡ cond b y x
turned true x y = refl
turned false x y = refl

pub no_length : {A : Type 0} (xs : List A) → length xs ≡ 0 → xs ≡ []
no_length [] none = refl
no_length (x ∷ xs) none = absurd (omega (arith, none))

length_with : (b : Bool) (n k : ℕ) → b ≡ false → n ≡ k → cond b n (n + 1) ≡ k + 1
length_with true n k is same = absurd cc
length_with false n k is same = omega (arith, same)

module _ {K X : Type 0} (R : K → K → Ordering) where
  -- std's words for maps and those of finite maps say the same
  pub put_is : (es : List (K × X)) (k : K) (v : X) → with_value R es k v ≡ fin.put R k v es
  put_is [] k v = refl
  put_is (e ∷ es) k v = ap (λ r. match_ordering (R k e.0) ((k, v) ∷ e ∷ es) ((e.0, v) ∷ es) (e ∷ r)) (put_is es k v)

  pub find_is : (es : List (K × X)) (q : K) → value_for R es q ≡ fin.find R q es
  find_is [] q = refl
  find_is (e ∷ es) q = ap (cond (is_eq (R q e.0)) (Some e.1)) (find_is es q)

  -- a map is no shorter once a value was put, and longer where the key was new
  pub length_kept : (es : List (K × X)) (k : K) (v : X) → length es ≤ length (with_value R es k v)
  length_kept [] k v = omega arith
  length_kept (e ∷ es) k v =
      elim (R k e.0) as (λ r. length (e ∷ es) ≤ length (match_ordering r ((k, v) ∷ e ∷ es) ((e.0, v) ∷ es) (e ∷ with_value R es k v))) [
        | Less ↦ omega arith
        | Equal ↦ omega arith
        | Greater ↦ omega (arith, length_kept es k v)
      ]

  pub length_new : (es : List (K × X)) (k : K) (v : X) → value_for R es k ≡ None → length es < length (with_value R es k v)
  length_new [] k v none = omega arith
  length_new (e ∷ es) k v none =
      elim (R k e.0) as (λ r. cond (is_eq r) (Some e.1) (value_for R es k) ≡ None → length (e ∷ es) < length (match_ordering r ((k, v) ∷ e ∷ es) ((e.0, v) ∷ es) (e ∷ with_value R es k v))) [
        | Less ↦ λ _. omega arith
        | Equal ↦ λ bad. absurd cc
        | Greater ↦ λ left. omega (arith, length_new es k v left)
      ] none

  below_to_all : (x : K) (es : List (K × X)) → T (fin.below_all R x es) → AllByRecursion (λ y. R x y ≡ Less) (keys_of es)
  below_to_all x [] below = tt
  below_to_all x (e ∷ es) below = (ordering_less (R x e.0) (first _ _ below), below_to_all x es (second _ _ below))

  pub rising_from_sorted : (es : List (K × X)) → T (fin.is_sorted R es) → IsStrictlySortedBy R (keys_of es)
  unfolding IsStrictlySortedBy
  rising_from_sorted [] sorted = tt
  rising_from_sorted (e ∷ es) sorted = (below_to_all e.0 es (first _ _ sorted), rising_from_sorted es (second _ _ sorted))

  -- a key below all others ties with none of them
  all_kept : (k : K) (es : List (K × X)) → T (fin.below_all R k es) → fin.where_key R (λ x. not (eq_by_cmp R k x)) es ≡ es
  all_kept k [] below = refl
  all_kept k (e ∷ es) below =
      let left = fin.where_key R (λ x. not (eq_by_cmp R k x)) es in
      ap (λ r. cond (not (is_eq r)) (e ∷ left) left) (ordering_less (R k e.0) (first _ _ below))
      ∙ ap (λ (rest : List (K × X)). e ∷ rest) (all_kept k es (second _ _ below))

  module _ (o : IsTotalOrder R) where
    pub below_tied : (x y : K) (es : List (K × X)) → R x y ≡ Equal → T (fin.below_all R y es) → T (fin.below_all R x es)
    below_tied x y [] tie below = tt
    below_tied x y (e ∷ es) tie below = both _ _ (subst (λ r. T (is_lt r)) (sym (o.congr x y e.0 tie)) (first _ _ below)) (below_tied x y es tie (second _ _ below))

    without_is : (k : K) (es : List (K × X)) → T (fin.is_sorted R es) → without_key R es k ≡ fin.where_key R (λ x. not (eq_by_cmp R k x)) es
    without_is k [] sorted = refl
    without_is k (e ∷ es) sorted =
        let left = fin.where_key R (λ x. not (eq_by_cmp R k x)) es in
        let rest = ap (λ (rest : List (K × X)). e ∷ rest) (without_is k es (second _ _ sorted)) in
        elim (R k e.0) as (λ r. R k e.0 ≡ r → cond (is_eq r) es (e ∷ without_key R es k) ≡ cond (not (is_eq r)) (e ∷ left) left) [
          | Less ↦ λ _. rest
          | Equal ↦ λ tie. sym (all_kept k es (below_tied k e.0 es tie (first _ _ sorted)))
          | Greater ↦ λ _. rest
        ] refl

    pub sorted_without : (k : K) (es : List (K × X)) → T (fin.is_sorted R es) → T (fin.is_sorted R (without_key R es k))
    sorted_without k es sorted =
        subst (λ xs. T (fin.is_sorted R xs)) (sym (without_is k es sorted)) (fin.is_sorted-where_key R (λ x. not (eq_by_cmp R k x)) es sorted)

    -- what entries have at a key after a value was put, and after a key was taken away
    pub value_for-with : (es : List (K × X)) (k : K) (v : X) (q : K) → value_for R (with_value R es k v) q ≡ cond (eq_by_cmp R q k) (Some v) (value_for R es q)
    value_for-with es k v q =
        find_is (with_value R es k v) q ∙ ap (fin.find R q) (put_is es k v) ∙ fin.find-put R o q k v es
        ∙ ap (cond (eq_by_cmp R q k) (Some v)) (sym (find_is es q))

    pub value_for-without : (es : List (K × X)) (k q : K) → T (fin.is_sorted R es) → value_for R (without_key R es k) q ≡ cond (eq_by_cmp R q k) None (value_for R es q)
    value_for-without es k q sorted =
        find_is (without_key R es k) q ∙ ap (fin.find R q) (without_is k es sorted)
        ∙ fin.find-where_key R (λ x. not (eq_by_cmp R k x)) q (λ x tie. ap (λ r. not (is_eq r)) (sym (alike_right o q x k tie))) es
        ∙ turned (eq_by_cmp R k q) (fin.find R q es) None
        ∙ ap (λ b. cond b None (fin.find R q es)) ((eq_by_cmp_equiv o).symm k q)
        ∙ ap (cond (eq_by_cmp R q k) None) (sym (find_is es q))

    pub sorted_with : (es : List (K × X)) (k : K) (v : X) → T (fin.is_sorted R es) → T (fin.is_sorted R (with_value R es k v))
    sorted_with es k v sorted = subst (λ xs. T (fin.is_sorted R xs)) (sym (put_is es k v)) (fin.is_sorted-put R o k v es sorted)

    -- entries of any list in the order of their keys
    pub are_sorted : (es : List (K × X)) → T (fin.is_sorted R (sorted_entries R es))
    are_sorted [] = tt
    are_sorted (e ∷ es) = sorted_with (sorted_entries R es) e.0 e.1 (are_sorted es)

    pub find_sorted : (es : List (K × X)) (q : K) → value_for R (sorted_entries R es) q ≡ fin.find R q es
    find_sorted [] q = refl
    find_sorted (e ∷ es) q = value_for-with (sorted_entries R es) e.0 e.1 q ∙ ap (cond (eq_by_cmp R q e.0) (Some e.1)) (find_sorted es q)

    pub length_sorted : (es : List (K × X)) → IsDistinct (eq_by_cmp R) (keys_of es) → length (sorted_entries R es) ≡ length es
    unfolding IsDistinct
    length_sorted [] apart = refl
    length_sorted (e ∷ es) apart =
        let rest = sorted_entries R es in
        ap length (put_is rest e.0 e.1) ∙ fin.length-put R o e.0 e.1 rest (are_sorted es)
        ∙ length_with (is_some (fin.find R e.0 rest)) (length rest) (length es) (ap is_some (sym (find_is rest e.0) ∙ find_sorted es e.0 ∙ absent e.0 es apart.0)) (length_sorted es apart.1)
        ∙ omega arith
      where
        absent : (k : K) (es : List (K × X)) → AllByRecursion (λ y. eq_by_cmp R k y ≡ false) (keys_of es) → fin.find R k es ≡ None
        absent k [] apart = refl
        absent k (e ∷ es) apart = ap (λ b. cond b (Some e.1) (fin.find R k es)) apart.0 ∙ absent k es apart.1

    -- entries that have the same at each key are the same
    pub same_values : IsAntisymmetric R → (es fs : List (K × X)) → T (fin.is_sorted R es) → T (fin.is_sorted R fs) → ((q : K) → value_for R es q ≡ value_for R fs q) → es ≡ fs
    same_values exact es fs sorted_es sorted_fs same =
        fin.same_entries R o exact es fs sorted_es sorted_fs (λ q. sym (find_is es q) ∙ same q ∙ find_is fs q)

-- keys are the same exactly where they tie
module _ {K : Type 0} (R : K → K → Ordering) (o : IsTotalOrder R) (exact : IsAntisymmetric R) where
  pub own_key : (k : K) → eq_by_cmp R k k ≡ true
  own_key k = (eq_by_cmp_equiv o).refl k

  pub same_key : (q k : K) → eq_by_cmp R q k ≡ true → q ≡ k
  same_key q k is = exact q k (equal (R q k) is)

  pub other_key : (q k : K) → (q ≡ k → ⊥) → eq_by_cmp R q k ≡ false
  other_key q k apart = elim (eq_by_cmp R q k) as (λ b. eq_by_cmp R q k ≡ b → b ≡ false) [ true ↦ λ is. absurd (apart (same_key q k is)) | false ↦ λ _. refl ] refl

  pub not_own : (q k : K) → eq_by_cmp R q k ≡ false → q ≡ k → ⊥
  not_own q k apart same = let own : eq_by_cmp R q k ≡ true = ap (λ x. eq_by_cmp R q x) (sym same) ∙ own_key q in let bad : true ≡ false = sym own ∙ apart in absurd cc

  module _ {X : Type 0} where
    pub with_here : (es : List (K × X)) (k : K) (v : X) → value_for R (with_value R es k v) k ≡ Some v
    with_here es k v = value_for-with R o es k v k ∙ ap (λ b. cond b (Some v) (value_for R es k)) (own_key k)

    pub with_other : (es : List (K × X)) (k : K) (v : X) (q : K) → eq_by_cmp R q k ≡ false → value_for R (with_value R es k v) q ≡ value_for R es q
    with_other es k v q apart = value_for-with R o es k v q ∙ ap (λ b. cond b (Some v) (value_for R es q)) apart

    pub without_here : (es : List (K × X)) (k : K) → T (fin.is_sorted R es) → value_for R (without_key R es k) k ≡ None
    without_here es k sorted = value_for-without R o es k k sorted ∙ ap (λ b. cond b None (value_for R es k)) (own_key k)

    pub without_other : (es : List (K × X)) (k q : K) → T (fin.is_sorted R es) → eq_by_cmp R q k ≡ false → value_for R (without_key R es k) q ≡ value_for R es q
    without_other es k q sorted apart = value_for-without R o es k q sorted ∙ ap (λ b. cond b None (value_for R es q)) apart

    -- where a value was found after a value was put, and after a key was taken away
    pub with_cases : (es : List (K × X)) (k : K) (v : X) (q : K) (y : X) → value_for R (with_value R es k v) q ≡ Some y → ((q ≡ k) × (v ≡ y)) ⊎ ((eq_by_cmp R q k ≡ false) × (value_for R es q ≡ Some y))
    with_cases es k v q y is =
        elim (eq_by_cmp R q k) as (λ b. eq_by_cmp R q k ≡ b → cond b (Some v) (value_for R es q) ≡ Some y → ((q ≡ k) × (v ≡ y)) ⊎ ((eq_by_cmp R q k ≡ false) × (value_for R es q ≡ Some y))) [
          | true ↦ λ tie found. inl (same_key q k tie, some v y found)
          | false ↦ λ apart found. inr (apart, found)
        ] refl (sym (value_for-with R o es k v q) ∙ is)
      where
        some : (v y : X) → ◌≡◌ {A = Option X} (Some v) (Some y) → v ≡ y
        some v y is = cc

    pub without_cases : (es : List (K × X)) (k q : K) (y : X) → T (fin.is_sorted R es) → value_for R (without_key R es k) q ≡ Some y → (eq_by_cmp R q k ≡ false) × (value_for R es q ≡ Some y)
    without_cases es k q y sorted is =
        elim (eq_by_cmp R q k) as (λ b. eq_by_cmp R q k ≡ b → cond b None (value_for R es q) ≡ Some y → (eq_by_cmp R q k ≡ false) × (value_for R es q ≡ Some y)) [
          | true ↦ λ tie bad. absurd cc
          | false ↦ λ apart found. (apart, found)
        ] refl (sym (value_for-without R o es k q sorted) ∙ is)

    -- to take a key away that isn't there changes nothing
    pub without_absent : (es : List (K × X)) (k : K) → value_for R es k ≡ None → without_key R es k ≡ es
    without_absent [] k none = refl
    without_absent (e ∷ es) k none =
        elim (eq_by_cmp R k e.0) as (λ b. cond b (Some e.1) (value_for R es k) ≡ None → cond b es (e ∷ without_key R es k) ≡ e ∷ es) [
          | true ↦ λ bad. absurd cc
          | false ↦ λ rest. ap (λ (xs : List (K × X)). e ∷ xs) (without_absent es k rest)
        ] none

    -- to put what a key has changes nothing
    pub with_same : (es : List (K × X)) (k : K) (v : X) → T (fin.is_sorted R es) → value_for R es k ≡ Some v → with_value R es k v ≡ es
    with_same es k v sorted is = same_values R o exact _ _ (sorted_with R o es k v sorted) sorted (λ q.
        value_for-with R o es k v q
        ∙ elim (eq_by_cmp R q k) as (λ b. eq_by_cmp R q k ≡ b → cond b (Some v) (value_for R es q) ≡ value_for R es q) [
          | true ↦ λ tie. sym (ap (value_for R es) (same_key q k tie) ∙ is)
          | false ↦ λ _. refl
        ] refl)

    -- an entry of a map is what is found at its key
    absent_below : (q : K) (es : List (K × X)) → T (fin.below_all R q es) → value_for R es q ≡ None
    absent_below q [] below = refl
    absent_below q (e ∷ es) below = ap (λ r. cond (is_eq r) (Some e.1) (value_for R es q)) (ordering_less (R q e.0) (first _ _ below)) ∙ absent_below q es (second _ _ below)

    pub later_found : (e : K × X) (es : List (K × X)) (q : K) (y : X) → T (fin.is_sorted R (e ∷ es)) → value_for R es q ≡ Some y → value_for R (e ∷ es) q ≡ Some y
    later_found e es q y sorted is =
        elim (eq_by_cmp R q e.0) as (λ b. eq_by_cmp R q e.0 ≡ b → cond b (Some e.1) (value_for R es q) ≡ Some y) [
          | true ↦ λ tie. absurd (let none = ap (value_for R es) (same_key q e.0 tie) ∙ absent_below e.0 es (first _ _ sorted) in let bad = sym is ∙ none in cc)
          | false ↦ λ _. is
        ] refl

    pub own_found : (e : K × X) (es : List (K × X)) → value_for R (e ∷ es) e.0 ≡ Some e.1
    own_found e es = ap (λ b. cond b (Some e.1) (value_for R es e.0)) (own_key e.0)

    -- where what is found at each key passes a test, all entries do
    pub all_pass : (p : X → Bool) (es : List (K × X)) → T (fin.is_sorted R es) → ((q : K) (y : X) → value_for R es q ≡ Some y → p y ≡ true) → filter (λ e. p e.1) es ≡ es
    all_pass p [] sorted passes = refl
    all_pass p (e ∷ es) sorted passes =
        ap (λ b. cond b (e ∷ filter (λ f. p f.1) es) (filter (λ f. p f.1) es)) (passes e.0 e.1 (own_found e es))
        ∙ ap (λ (xs : List (K × X)). e ∷ xs) (all_pass p es (second _ _ sorted) (λ q y is. passes q y (later_found e es q y sorted is)))

    -- the first entry whose value passes a test is one that passes; where there is none, no value passes
    pub first_passes : (p : X → Bool) (es : List (K × X)) (e : K × X) → T (fin.is_sorted R es) → find (λ f. p f.1) es ≡ Some e → (p e.1 ≡ true) × (value_for R es e.0 ≡ Some e.1)
    first_passes p [] e sorted is = absurd cc
    first_passes p (f ∷ es) e sorted is =
        elim (p f.1) as (λ b. p f.1 ≡ b → cond b (Some f) (find (λ f. p f.1) es) ≡ Some e → (p e.1 ≡ true) × (value_for R (f ∷ es) e.0 ≡ Some e.1)) [
          | true ↦ λ passes found. let same = some f e found in (ap (λ (x : K × X). p x.1) (sym same) ∙ passes, subst (λ (x : K × X). value_for R (f ∷ es) x.0 ≡ Some x.1) same (own_found f es))
          | false ↦ λ _ found. let rest = first_passes p es e (second _ _ sorted) found in (rest.0, later_found f es e.0 e.1 sorted rest.1)
        ] refl is
      where
        some : (x y : K × X) → ◌≡◌ {A = Option (K × X)} (Some x) (Some y) → x ≡ y
        some x y is = cc

    pub none_passes : (p : X → Bool) (es : List (K × X)) (q : K) (y : X) → find (λ f. p f.1) es ≡ None → value_for R es q ≡ Some y → p y ≡ false
    none_passes p [] q y none is = absurd cc
    none_passes p (f ∷ es) q y none is =
        elim (p f.1) as (λ b. p f.1 ≡ b → cond b (Some f) (find (λ f. p f.1) es) ≡ None → p y ≡ false) [
          | true ↦ λ _ bad. absurd cc
          | false ↦ λ fails rest. elim (eq_by_cmp R q f.0) as (λ b. cond b (Some f.1) (value_for R es q) ≡ Some y → p y ≡ false) [
            | true ↦ λ found. ap p (sym (some f.1 y found)) ∙ fails
            | false ↦ λ found. none_passes p es q y rest found
          ] is
        ] refl none
      where
        some : (x y : X) → ◌≡◌ {A = Option X} (Some x) (Some y) → x ≡ y
        some x y is = cc

-- a function of each value, before or after a change
module _ {K X Y : Type 0} (R : K → K → Ordering) (g : X → Y) where
  abbrev pub with_values : List (K × X) → List (K × Y)
  with_values es = map (λ e. (e.0, g e.1)) es

  pub values-with : (es : List (K × X)) (k : K) (v : X) → with_values (with_value R es k v) ≡ with_value R (with_values es) k (g v)
  values-with [] k v = refl
  values-with (e ∷ es) k v =
      elim (R k e.0) as (λ r. with_values (match_ordering r ((k, v) ∷ e ∷ es) ((e.0, v) ∷ es) (e ∷ with_value R es k v)) ≡ match_ordering r ((k, g v) ∷ with_values (e ∷ es)) ((e.0, g v) ∷ with_values es) ((e.0, g e.1) ∷ with_value R (with_values es) k (g v))) [
        | Less ↦ refl
        | Equal ↦ refl
        | Greater ↦ ap (λ (xs : List (K × Y)). (e.0, g e.1) ∷ xs) (values-with es k v)
      ]

  pub values-without : (es : List (K × X)) (k : K) → with_values (without_key R es k) ≡ without_key R (with_values es) k
  values-without [] k = refl
  values-without (e ∷ es) k =
      elim (eq_by_cmp R k e.0) as (λ b. with_values (cond b es (e ∷ without_key R es k)) ≡ cond b (with_values es) ((e.0, g e.1) ∷ without_key R (with_values es) k)) [
        | true ↦ refl
        | false ↦ ap (λ (xs : List (K × Y)). (e.0, g e.1) ∷ xs) (values-without es k)
      ]

  below-values : (x : K) (es : List (K × X)) → T (fin.below_all R x es) → T (fin.below_all R x (with_values es))
  below-values x [] below = tt
  below-values x (e ∷ es) below = both _ _ (first _ _ below) (below-values x es (second _ _ below))

  pub sorted-values : (es : List (K × X)) → T (fin.is_sorted R es) → T (fin.is_sorted R (with_values es))
  sorted-values [] sorted = tt
  sorted-values (e ∷ es) sorted = both _ _ (below-values e.0 es (first _ _ sorted)) (sorted-values es (second _ _ sorted))

  -- a list whose values are mapped, in the order of its keys
  pub sorted-with_values : (es : List (K × X)) → sorted_entries R (with_values es) ≡ with_values (sorted_entries R es)
  sorted-with_values [] = refl
  sorted-with_values (e ∷ es) = ap (λ (xs : List (K × Y)). with_value R xs e.0 (g e.1)) (sorted-with_values es) ∙ sym (values-with (sorted_entries R es) e.0 e.1)
