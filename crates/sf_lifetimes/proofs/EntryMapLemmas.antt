-- The finite map of a list of entries.
use Rattle.std.proofs.Common.{◌≡◌, ℕ, ◌+◌, ◌≤◌, Bool, true, false, cond, List, [], ◌∷◌, length, Option, Some, None, refl, sym, ap, subst, ◌∙◌, arith}
use Rattle.std.specs.Prelude.{T, IsSome, IfSome}
use Rattle.std.specs.Ordering.{eq_by_cmp}
use Rattle.std.specs.Cmp.{IsTotalOrder}
use Rattle.std.specs.declared.cmp.Ordering.{Ordering}
use Rattle.std.specs.FinMap as fin
use Rattle.std.specs.FinMap.{IsAntisymmetric, same_map, get-from_entries, get-insert, get-remove, len-insert}
use Rattle.std.specs.FinMap.Entries.{is_sorted}
use Rattle.sf_room_map.specs.Entries.{value_for, with_value, without_key}
use Rattle.sf_room_map.proofs.EntryLemmas.{find_is, value_for-with, value_for-without, with_here}

at_most : (b : Bool) (n k : ℕ) → n ≤ k → cond b n (n + 1) ≤ k + 1
at_most true n k le = omega (arith, le)
at_most false n k le = omega (arith, le)

-- what is there
pub value_of : {X : Type 0} (x : Option X) → IsSome x → (v : X) × (x ≡ Some v)
value_of None some = absurd cc
value_of (Some v) some = (v, refl)

-- what a clause says of a value that is there
pub of_some : {X : Type 0} (P : X → Type 0) (x : Option X) (v : X) → x ≡ Some v → IfSome x P → P v
of_some P x v is holds = subst (λ y. IfSome y P) is holds

module _ {K X : Type 0} (R : K → K → Ordering) (o : IsTotalOrder R) where
  -- it has no more keys than entries
  pub len-le : (es : List (K × X)) → fin.len (fin.from_entries {R = R} es) ≤ length es
  len-le [] = omega (arith, fin.len-empty R X)
  len-le (e ∷ es) =
      let rest = fin.from_entries {R = R} es in
      omega (arith, len-insert o rest e.0 e.1, at_most (fin.contains_key rest e.0) (fin.len rest) (length es) (len-le es))

  -- a look-up in it
  pub get_is : (es : List (K × X)) (q : K) → fin.get (fin.from_entries {R = R} es) q ≡ value_for R es q
  get_is es q = get-from_entries o es q ∙ sym (find_is R es q)

  module _ (same : IsAntisymmetric R) where
    -- after a value was put at a key, and after a key was taken out
    pub put_at : (es : List (K × X)) (k : K) (v : X) → fin.from_entries {R = R} (with_value R es k v) ≡ fin.insert (fin.from_entries {R = R} es) k v
    put_at es k v = same_map o same _ _ (λ q.
        get_is (with_value R es k v) q ∙ value_for-with R o es k v q
        ∙ ap (cond (eq_by_cmp R q k) (Some v)) (sym (get_is es q))
        ∙ sym (get-insert o (fin.from_entries {R = R} es) k v q))

    pub taken_out : (es : List (K × X)) (k : K) → T (is_sorted R es) → fin.from_entries {R = R} (without_key R es k) ≡ fin.remove (fin.from_entries {R = R} es) k
    taken_out es k sorted = same_map o same _ _ (λ q.
        get_is (without_key R es k) q ∙ value_for-without R o es k q sorted
        ∙ ap (cond (eq_by_cmp R q k) None) (sym (get_is es q))
        ∙ sym (get-remove o (fin.from_entries {R = R} es) k q))

    -- after the value at a key was exchanged
    pub exchanged_at : (es fs : List (K × X)) (k : K) (f : X → X) (v : X) → fin.get (fin.from_entries {R = R} es) k ≡ Some v → IfSome (value_for R es k) (λ w. fs ≡ with_value R es k (f w)) → fin.from_entries {R = R} fs ≡ fin.insert (fin.from_entries {R = R} es) k (f v)
    exchanged_at es fs k f v is held = ap (λ (xs : List (K × X)). fin.from_entries {R = R} xs) (of_some (λ w. fs ≡ with_value R es k (f w)) (value_for R es k) v (sym (get_is es k) ∙ is) held) ∙ put_at es k (f v)

    pub exchanged_here : (es fs : List (K × X)) (k : K) (f : X → X) (v : X) → fin.get (fin.from_entries {R = R} es) k ≡ Some v → IfSome (value_for R es k) (λ w. fs ≡ with_value R es k (f w)) → value_for R fs k ≡ Some (f v)
    exchanged_here es fs k f v is held = ap (λ (xs : List (K × X)). value_for R xs k) (of_some (λ w. fs ≡ with_value R es k (f w)) (value_for R es k) v (sym (get_is es k) ∙ is) held) ∙ with_here R o same es k (f v)
