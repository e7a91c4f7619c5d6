-- Sums over the values of a finite map.
use Rattle.std.proofs.Common.{◌≡◌, ℕ, ◌+◌, ◌≤◌, true, false, cond, List, [], ◌∷◌, map, Option, Some, None, refl, sym, ap, subst, ◌∙◌, arith}
use Rattle.std.specs.Prelude.{T}
use Rattle.std.specs.List.{sum_by}
use Rattle.std.specs.Ordering.{eq_by_cmp, is_lt, is_eq}
use Rattle.std.specs.Cmp.{IsTotalOrder}
use Rattle.std.specs.declared.cmp.Ordering.{Ordering}
use Rattle.std.specs.declared.cmp.Ordering.TheVariants.{Less, Equal, Greater}
use Rattle.std.proofs.lemmas.List.Sums.{sum_by-cons}
use Rattle.std.specs.FinMap as fin
use Rattle.std.specs.FinMap.{FinMap, IsAntisymmetric, same_map, entries, entries-insert, entries_sorted, get, get-entries, get-insert, get-remove}
use Rattle.std.proofs.lemmas.Cmp.{tied_itself}
use Rattle.std.specs.FinMap.Entries.{find, put, is_sorted, below_all, by_order}
use Rattle.sf_types.proofs.BoolLemmas.{first, second, both}
use Rattle.sf_types.proofs.NameMapLemmas.{equal, ordering_less}
use Rattle.sf_room_map.proofs.EntryLemmas.{no_length, below_tied}

-- the weight of what a map has at a key
abbrev pub weight : {X : Type 0} → (X → ℕ) → Option X → ℕ
weight f None = 0
weight f (Some x) = f x

module _ {K X : Type 0} (R : K → K → Ordering) (o : IsTotalOrder R) where
  below-less : (x y : K) (es : List (K × X)) → R x y ≡ Less → T (below_all R y es) → T (below_all R x es)
  below-less x y [] p h = tt
  below-less x y (e ∷ es) p h = both _ _ (subst (λ r. T (is_lt r)) (sym (o.trans x y e.0 p (ordering_less _ (first _ _ h)))) tt) (below-less x y es p (second _ _ h))

  pub find-below : (q : K) (es : List (K × X)) → T (below_all R q es) → find R q es ≡ None
  find-below q [] h = refl
  find-below q (e ∷ es) h = ap (λ r. cond (is_eq r) (Some e.1) (find R q es)) (ordering_less _ (first _ _ h)) ∙ find-below q es (second _ _ h)

  module _ (f : X → ℕ) where
    abbrev values_sum : List (K × X) → ℕ
    values_sum es = sum_by f (map (λ e. e.1) es)

    sum-cons : (e : K × X) (es : List (K × X)) → values_sum (e ∷ es) ≡ f e.1 + values_sum es
    sum-cons e es = sum_by-cons f e.1 (map (λ e. e.1) es)

    sum-put : (k : K) (v : X) (es : List (K × X)) → T (is_sorted R es) → values_sum (put R k v es) + weight f (find R k es) ≡ values_sum es + f v
    sum-put k v [] h = omega (arith, sum-cons (k, v) [])
    sum-put k v (e ∷ es) h =
        elim (R k e.0) as (λ r. R k e.0 ≡ r → values_sum (by_order r ((k, v) ∷ e ∷ es) ((e.0, v) ∷ es) (e ∷ put R k v es)) + weight f (cond (is_eq r) (Some e.1) (find R k es)) ≡ values_sum (e ∷ es) + f v) [
          | Less ↦ λ p. omega (arith, sum-cons (k, v) (e ∷ es), ap (weight f) (find-below k es (below-less k e.0 es p (first _ _ h))))
          | Equal ↦ λ p. omega (arith, sum-cons (e.0, v) es, sum-cons e es)
          | Greater ↦ λ p. omega (arith, sum-cons e (put R k v es), sum-cons e es, sum-put k v es (second _ _ h))
        ] refl

    -- after a value was put at a key
    pub sum-insert : (m : FinMap R X) (k : K) (v : X) → sum_by f (fin.values (fin.insert m k v)) + weight f (get m k) ≡ sum_by f (fin.values m) + f v
    sum-insert m k v =
        ap (λ (es : List (K × X)). sum_by f (map (λ e. e.1) es) + weight f (get m k)) (entries-insert o m k v)
        ∙ ap (λ x. values_sum (put R k v (entries m)) + weight f x) (get-entries m k)
        ∙ sum-put k v (entries m) (entries_sorted m)

module _ {K X : Type 0} (R : K → K → Ordering) (o : IsTotalOrder R) (same : IsAntisymmetric R) where
  -- a map has what it lost, put back
  put-back : (m : FinMap R X) (k : K) (v : X) → get m k ≡ Some v → m ≡ fin.insert (fin.remove m k) k v
  put-back m k v is = same_map o same _ _ (λ q. sym (get-insert o (fin.remove m k) k v q ∙ ap (cond (eq_by_cmp R q k) (Some v)) (get-remove o m k q)
      ∙ elim (eq_by_cmp R q k) as (λ t. eq_by_cmp R q k ≡ t → cond t (Some v) (cond t None (get m q)) ≡ get m q) [
        | true ↦ λ t. sym (ap (get m) (same q k (equal _ t)) ∙ is)
        | false ↦ λ t. refl
      ] refl))

  nothing-lost : (m : FinMap R X) (k : K) → get m k ≡ None → fin.remove m k ≡ m
  nothing-lost m k is = same_map o same _ _ (λ q. get-remove o m k q
      ∙ elim (eq_by_cmp R q k) as (λ t. eq_by_cmp R q k ≡ t → cond t None (get m q) ≡ get m q) [
        | true ↦ λ t. sym (ap (get m) (same q k (equal _ t)) ∙ is)
        | false ↦ λ t. refl
      ] refl)

  gone : (m : FinMap R X) (k : K) → get (fin.remove m k) k ≡ None
  gone m k = get-remove o m k k ∙ ap (λ r. cond (is_eq r) None (get m k)) (tied_itself o k)

  -- after a key was taken out
  pub sum-remove : (f : X → ℕ) (m : FinMap R X) (k : K) → sum_by f (fin.values (fin.remove m k)) + weight f (get m k) ≡ sum_by f (fin.values m)
  sum-remove f m k =
      elim (get m k) as (λ x. get m k ≡ x → sum_by f (fin.values (fin.remove m k)) + weight f x ≡ sum_by f (fin.values m)) [
        | None ↦ λ is. omega (arith, ap (λ n. sum_by f (fin.values n)) (nothing-lost m k is))
        | Some v ↦ λ is. omega (arith, ap (λ n. sum_by f (fin.values n)) (put-back m k v is), sum-insert R o f (fin.remove m k) k v, ap (weight f) (gone m k))
      ] refl

  -- a value weighs no more than all
  pub weight-le : (f : X → ℕ) (m : FinMap R X) (k : K) → weight f (get m k) ≤ sum_by f (fin.values m)
  weight-le f m k = omega (arith, sum-remove f m k)

-- where each value weighs no more, they weigh no more together
pub sum-le : {K X Y : Type 0} (R : K → K → Ordering) (o : IsTotalOrder R) (same : IsAntisymmetric R) (f : X → ℕ) (g : Y → ℕ) (es : List (K × X)) (n : FinMap R Y) → T (is_sorted R es)
    → ((q : K) → weight f (find R q es) ≤ weight g (get n q)) → sum_by f (map (λ e. e.1) es) ≤ sum_by g (fin.values n)
sum-le R o same f g [] n sorted le = omega arith
sum-le {K} {X} R o same f g (e ∷ es) n sorted le =
    let own : f e.1 ≤ weight g (get n e.0) = subst (λ (x : Option X). weight f x ≤ weight g (get n e.0)) (ap (λ r. cond (is_eq r) (Some e.1) (find R e.0 es)) (tied_itself o e.0)) (le e.0) in
    let rest = sum-le R o same f g es (fin.remove n e.0) (second _ _ sorted) (λ q.
    subst (λ y. weight f (find R q es) ≤ weight g y) (sym (get-remove o n e.0 q))
    (elim (eq_by_cmp R q e.0) as (λ t. eq_by_cmp R q e.0 ≡ t → weight f (cond t (Some e.1) (find R q es)) ≤ weight g (get n q) → weight f (find R q es) ≤ weight g (cond t None (get n q))) [
      | true ↦ λ t _. omega (arith, ap (weight f) (find-below R o q es (below_tied R o q e.0 es (equal _ t) (first _ _ sorted))))
      | false ↦ λ t fits. fits
    ] refl (le q))) in
    omega (arith, own, rest, sum_by-cons f e.1 (map (λ (e : K × X). e.1) es), sum-remove R o same g n e.0)

-- where each key has values of one weight in two maps, these weigh the same together
pub same_sum : {K X Y : Type 0} (R : K → K → Ordering) (o : IsTotalOrder R) (same : IsAntisymmetric R) (f : X → ℕ) (g : Y → ℕ) (m : FinMap R X) (n : FinMap R Y)
    → ((q : K) → weight f (get m q) ≡ weight g (get n q)) → sum_by f (fin.values m) ≡ sum_by g (fin.values n)
same_sum R o same f g m n is =
    let below = sum-le R o same f g (entries m) n (entries_sorted m) (λ q. omega (arith, is q, ap (weight f) (get-entries m q))) in
    let above = sum-le R o same g f (entries n) m (entries_sorted n) (λ q. omega (arith, is q, ap (weight g) (get-entries n q))) in
    omega (arith, below, above)

-- the empty map has no entries and no values
pub no_entries : {K X : Type 0} (R : K → K → Ordering) → entries (fin.empty {X = X} {R = R}) ≡ []
no_entries {X = X} R = no_length (entries fin.empty) (sym (fin.len-entries (fin.empty {X = X} {R = R})) ∙ fin.len-empty R X)

pub no_values : {K X : Type 0} (R : K → K → Ordering) → fin.values (fin.empty {X = X} {R = R}) ≡ []
no_values {K} {X} R = ap (map (λ (e : K × X). e.1)) (no_entries R)
