-- Entries that are taken out one after the other.
use Rattle.std.proofs.Common.{◌≡◌, ℕ, ◌+◌, ◌<◌, Bool, true, false, cond, not, ◌&&◌, ◌||◌, List, [], ◌∷◌, map, length, take, get_or, refl, sym, ap, subst, ◌∙◌, ◌++◌}
use Rattle.std.specs.Prelude.{T, filter, ◌==◌}
use Rattle.std.specs.Ordering.{nat_cmp, eq_by_cmp, is_eq, is_lt}
use Rattle.std.specs.Cmp.{unsigned_ties, nat_eq_equiv}
use Rattle.std.specs.FinMap.Entries.{is_sorted, below_all, is_sorted-where_key}
use Rattle.std.proofs.lemmas.List.{take_more, map-append}
use Rattle.std.proofs.lemmas.List.Elements.{filter_agree}
use Rattle.sf_types.specs.declared.birth_runs.BirthRuns.{BirthRuns}
use Rattle.sf_types.proofs.BoolLemmas.{first, second, or-false, or-regroup}
use Rattle.sf_types.proofs.NameMapLemmas.{ordering_less}
use Rattle.sf_types.proofs.NumberLemmas.{same_number}
use Rattle.sf_room_map.specs.Entries.{without_key}
use Rattle.sf_lifetimes.specs.Ledgers.{has_birth}
use Rattle.sf_stock.specs.Inside.Keeps.{without_births}

apart_from_less : (b k : ℕ) → T (is_lt (nat_cmp b k)) → (b == k) ≡ false
apart_from_less b k less = unsigned_ties b k ∙ ap is_eq (ordering_less (nat_cmp b k) less)

all_kept : {X : Type 0} (b : ℕ) (es : List (ℕ × X)) → T (below_all nat_cmp b es) → es ≡ filter (λ e. not (b == e.0)) es
all_kept b [] below = refl
all_kept b (e ∷ es) below =
    ap (λ (fs : List (ℕ × _)). e ∷ fs) (all_kept b es (second _ _ below))
    ∙ ap (λ t. cond (not t) (e ∷ filter (λ e. not (b == e.0)) es) (filter (λ e. not (b == e.0)) es)) (sym (apart_from_less b e.0 (first _ _ below)))

without_is : {X : Type 0} (es : List (ℕ × X)) (b : ℕ) → T (is_sorted nat_cmp es) → without_key nat_cmp es b ≡ filter (λ e. not (b == e.0)) es
without_is [] b sorted = refl
without_is (e ∷ es) b sorted =
    let rest = without_is es b (second _ _ sorted) in
    elim (eq_by_cmp nat_cmp b e.0) as (λ t. (b == e.0) ≡ t → cond t es (e ∷ without_key nat_cmp es b) ≡ cond (not (b == e.0)) (e ∷ filter (λ e. not (b == e.0)) es) (filter (λ e. not (b == e.0)) es)) [
      | true ↦ λ is.
          all_kept b es (subst (λ k. T (below_all nat_cmp k es)) (sym (same_number b e.0 is)) (first _ _ sorted))
          ∙ ap (λ t. cond (not t) (e ∷ filter (λ e. not (b == e.0)) es) (filter (λ e. not (b == e.0)) es)) (sym is)
      | false ↦ λ is.
          ap (λ (fs : List (ℕ × _)). e ∷ fs) rest
          ∙ ap (λ t. cond (not t) (e ∷ filter (λ e. not (b == e.0)) es) (filter (λ e. not (b == e.0)) es)) (sym is)
    ] (unsigned_ties b e.0)

pub filter_both : {X : Type 0} (p q : X → Bool) (xs : List X) → filter p (filter q xs) ≡ filter (λ x. q x && p x) xs
filter_both p q [] = refl
filter_both p q (x ∷ xs) =
    let rest = filter_both p q xs in
    elim (q x) as (λ t. filter p (cond t (x ∷ filter q xs) (filter q xs)) ≡ cond (t && p x) (x ∷ filter (λ x. q x && p x) xs) (filter (λ x. q x && p x) xs)) [
      | true ↦ ap (λ (ys : List _). cond (p x) (x ∷ ys) ys) rest
      | false ↦ rest
    ]

has_next : (gone : List BirthRuns) (k : ℕ) (d : BirthRuns) (b : ℕ) → k < length gone → has_birth (map (λ x. x.birth) (take (k + 1) gone)) b ≡ (has_birth (map (λ x. x.birth) (take k gone)) b || (b == (get_or gone k d).birth))
has_next gone k d b less =
    ap (λ (xs : List BirthRuns). has_birth (map (λ x. x.birth) xs) b) (take_more gone k d less)
    ∙ ap (λ (xs : List ℕ). has_birth xs b) (map-append (λ (x : BirthRuns). x.birth) (take k gone) (get_or gone k d ∷ []))
    ∙ has_last (map (λ x. x.birth) (take k gone)) (get_or gone k d).birth b
  where
    has_last : (xs : List ℕ) (y b : ℕ) → has_birth (xs ++ y ∷ []) b ≡ (has_birth xs b || (b == y))
    has_last [] y b = sym (or-false (b == y))
    has_last (x ∷ xs) y b = ap (λ t. (b == x) || t) (has_last xs y b) ∙ sym (or-regroup (b == x) (has_birth xs b) (b == y))

neither : (a b : Bool) → (not a && not b) ≡ not (a || b)
neither true b = refl
neither false b = refl

-- one birth more
pub without_next : {X : Type 0} (es : List (ℕ × X)) (gone : List BirthRuns) (k : ℕ) (d : BirthRuns) → T (is_sorted nat_cmp es) → k < length gone
    → without_key nat_cmp (without_births es (take k gone)) (get_or gone k d).birth ≡ without_births es (take (k + 1) gone)
without_next es gone k d sorted less =
    let b = (get_or gone k d).birth in
    without_is (without_births es (take k gone)) b (is_sorted-where_key nat_cmp (λ q. not (has_birth (map (λ x. x.birth) (take k gone)) q)) es sorted)
    ∙ filter_both (λ (e : ℕ × _). not (b == e.0)) (λ e. not (has_birth (map (λ x. x.birth) (take k gone)) e.0)) es
    ∙ filter_agree (λ (e : ℕ × _). not (has_birth (map (λ x. x.birth) (take k gone)) e.0) && not (b == e.0)) (λ e. not (has_birth (map (λ x. x.birth) (take (k + 1) gone)) e.0))
    (λ e. neither (has_birth (map (λ x. x.birth) (take k gone)) e.0) (b == e.0) ∙ ap not (ap (λ t. has_birth (map (λ x. x.birth) (take k gone)) e.0 || t) (turned b e.0) ∙ sym (has_next gone k d e.0 less))) es
  where
    turned : (a b : ℕ) → (a == b) ≡ (b == a)
    turned a b = nat_eq_equiv.symm a b

pub without_none : {X : Type 0} (es : List (ℕ × X)) → es ≡ without_births es []
without_none [] = refl
without_none (e ∷ es) = ap (λ (fs : List (ℕ × _)). e ∷ fs) (without_none es)
