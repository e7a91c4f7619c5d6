-- What holds of each entry of a map from names.
use Rattle.std.proofs.Common.{◌≡◌, ℕ, true, false, cond, List, [], ◌∷◌, Some, refl, sym, subst}
use Rattle.std.specs.Prelude.{unwrap_or}
use Rattle.std.specs.List.{AllByRecursion as Each}
use Rattle.std.specs.declared.cmp.Ordering.TheVariants.{Less, Equal, Greater}
use Rattle.std.specs.Ordering.{match_ordering}
use Rattle.sf_types.specs.Values.Names.{name_cmp}
use Rattle.sf_types.specs.Inside.NameMaps.{NameMap, is_same_name, get, with_entry, without_entry}
use Rattle.sf_types.proofs.NameMapLemmas.{same_name}

pub each-put : {X : Type 0} (E : List ℕ × X → Type 0) (m : NameMap X) (k : List ℕ) (x : X) → E (k, x) → Each E m → Each E (with_entry m k x)
each-put E [] k x is all = (is, tt)
each-put E (e ∷ m) k x is all =
    elim (name_cmp k e.0) as (λ r. name_cmp k e.0 ≡ r → Each E (match_ordering r ((k, x) ∷ e ∷ m) ((e.0, x) ∷ m) (e ∷ with_entry m k x))) [
      | Less ↦ λ cmp. (is, (all.0, all.1))
      | Equal ↦ λ cmp. (subst (λ n. E (n, x)) (same_name k e.0 (rw cmp refl)) is, all.1)
      | Greater ↦ λ cmp. (all.0, each-put E m k x is all.1)
    ] refl

pub each-without : {X : Type 0} (E : List ℕ × X → Type 0) (m : NameMap X) (k : List ℕ) → Each E m → Each E (without_entry m k)
each-without E [] k all = tt
each-without E (e ∷ m) k all =
    elim (is_same_name k e.0) as (λ b. Each E (cond b m (e ∷ without_entry m k))) [
      | true ↦ all.1
      | false ↦ (all.0, each-without E m k all.1)
    ]

-- what a map has at a name
pub each_get : {X : Type 0} (E : List ℕ × X → Type 0) (m : NameMap X) (k : List ℕ) (x : X) → Each E m → get m k ≡ Some x → E (k, x)
each_get E [] k x all is = absurd cc
each_get E (e ∷ m) k x all is =
    elim (is_same_name k e.0) as (λ b. is_same_name k e.0 ≡ b → cond b (Some e.1) (get m k) ≡ Some x → E (k, x)) [
      | true ↦ λ same found. let v : e.1 ≡ x = cc in subst (λ y. E (k, y)) v (subst (λ n. E (n, e.1)) (sym (same_name k e.0 same)) all.0)
      | false ↦ λ same found. each_get E m k x all.1 found
    ] refl is

pub each_get_or : {X : Type 0} (P : X → Type 0) (m : NameMap X) (k : List ℕ) (d : X) → Each (λ e. P e.1) m → P d → P (unwrap_or (get m k) d)
each_get_or P [] k d all is = is
each_get_or P (e ∷ m) k d all is =
    elim (is_same_name k e.0) as (λ b. P (unwrap_or (cond b (Some e.1) (get m k)) d)) [
      | true ↦ all.0
      | false ↦ each_get_or P m k d all.1 is
    ]
