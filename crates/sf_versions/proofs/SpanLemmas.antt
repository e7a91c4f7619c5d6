-- The spans of rows and the versions at their places.
use Rattle.std.proofs.Common.{◌≡◌, ℕ, zero, suc, ◌+◌, ◌<◌, ◌≤◌, true, false, cond, List, [], ◌∷◌, ◌++◌, length, get_or, Option, Some, None, ◌⊎◌, ⊎_elim, inl, inr, refl, sym, ap, subst, ◌∙◌, arith}
use Rattle.std.specs.Prelude.{T, slice_get, unwrap_or}
use Rattle.std.specs.Map.{keys_of}
use Rattle.std.specs.Option.{option_map}
use Rattle.std.specs.Ordering.{eq_by_cmp}
use Rattle.std.specs.Cmp.Lexicographic.{nat_list_cmp_total}
use Rattle.std.specs.FinMap.{IsAntisymmetric, nat_cmp-IsAntisymmetric, slice_cmp-IsAntisymmetric}
use Rattle.std.specs.FinMap.Entries.{is_sorted}
use Rattle.std.proofs.lemmas.Map.Made.{lookup-map_values}
use Rattle.sf_types.specs.Values.Names.{name_cmp}
use Rattle.sf_types.specs.Values.Marks.{Value}
use Rattle.sf_types.specs.Inside.NameMaps.{NameMap, get, with_entry}
use Rattle.sf_types.proofs.BoolLemmas.{second}
use Rattle.sf_room_map.specs.Entries.{value_for, with_value}
use Rattle.sf_room_map.proofs.EntryLemmas as entry
use Rattle.sf_versions.specs.declared.key.VersionKey.{VersionKey}
use Rattle.sf_versions.specs.declared.span.Span.{Span}
use Rattle.sf_versions.specs.RowChanges.{RowChanges, RiseWithin}
use Rattle.sf_versions.specs.VersionTables.{versions_of}
use Rattle.sf_versions.specs.Inside.VersionOrder.{key_cmp, key_cmp_total, keys_exact}
use Rattle.sf_versions.specs.Inside.Spans.{Ranked, key_at, version_at, versions_from, versions_in, rows_in, span_for, IsSpan, AreSpans}

pub names_exact : IsAntisymmetric name_cmp
names_exact = slice_cmp-IsAntisymmetric nat_cmp-IsAntisymmetric

-- the version at a place after one was put
pub version_here : (vs : Ranked) (row rank : ℕ) (v : ℕ × Option Value) → version_at (with_value key_cmp vs (key_at row rank) v) row rank ≡ v
version_here vs row rank v = ap (λ (x : Option (ℕ × Option Value)). unwrap_or x (0, None)) (entry.with_here key_cmp key_cmp_total keys_exact vs (key_at row rank) v)

pub version_other : (vs : Ranked) (key : VersionKey) (v : ℕ × Option Value) (row rank : ℕ) → (key_at row rank ≡ key → ⊥) → version_at (with_value key_cmp vs key v) row rank ≡ version_at vs row rank
version_other vs key v row rank apart =
    ap (λ (x : Option (ℕ × Option Value)). unwrap_or x (0, None))
    (entry.with_other key_cmp key_cmp_total keys_exact vs key v (key_at row rank) (entry.other_key key_cmp key_cmp_total keys_exact (key_at row rank) key apart))

pub other_row : (row rank other r : ℕ) → (other ≡ row → ⊥) → key_at other r ≡ key_at row rank → ⊥
other_row row rank other r apart same = apart (ap (λ (k : VersionKey). k.row) same)

pub other_rank : (row rank r : ℕ) → (r ≡ rank → ⊥) → key_at row r ≡ key_at row rank → ⊥
other_rank row rank r apart same = apart (ap (λ (k : VersionKey). k.rank) same)

-- the versions of a row from a rank on
pub from_same : (vs ws : Ranked) (row first count : ℕ) → ((rank : ℕ) → first ≤ rank → rank < first + count → version_at ws row rank ≡ version_at vs row rank) → versions_from ws row first count ≡ versions_from vs row first count
from_same vs ws row first zero same = refl
from_same vs ws row first (suc count) same =
    ap (λ (v : ℕ × Option Value). v ∷ versions_from ws row (first + 1) count) (same first (omega arith) (omega arith))
    ∙ ap (λ (rest : RowChanges). version_at vs row first ∷ rest) (from_same vs ws row (first + 1) count (λ rank from below. same rank (omega (arith, from)) (omega (arith, below))))

pub from_last : (vs : Ranked) (row first count : ℕ) → versions_from vs row first (suc count) ≡ versions_from vs row first count ++ version_at vs row (first + count) ∷ []
from_last vs row first zero = ap (λ r. version_at vs row r ∷ []) {x = first} {y = first + 0} (omega arith)
from_last vs row first (suc count) =
    ap (λ (rest : RowChanges). version_at vs row first ∷ rest)
    (from_last vs row (first + 1) count ∙ ap (λ r. versions_from vs row (first + 1) count ++ version_at vs row r ∷ []) {x = first + 1 + count} {y = first + suc count} (omega arith))

pub length_from : (vs : Ranked) (row first count : ℕ) → length (versions_from vs row first count) ≡ count
length_from vs row first zero = refl
length_from vs row first (suc count) = ap suc (length_from vs row (first + 1) count)

pub from_at : (vs : Ranked) (row first count k : ℕ) (d : ℕ × Option Value) → k < count → get_or (versions_from vs row first count) k d ≡ version_at vs row (first + k)
from_at vs row first zero k d below = absurd (omega (arith, below))
from_at vs row first (suc count) zero d below = ap (version_at vs row) {x = first} {y = first + 0} (omega arith)
from_at vs row first (suc count) (suc k) d below =
    from_at vs row (first + 1) count k d (omega (arith, below)) ∙ ap (version_at vs row) {x = first + 1 + k} {y = first + suc k} (omega arith)

pub get_from : (vs : Ranked) (row first count k : ℕ) → k < count → slice_get (versions_from vs row first count) k ≡ Some (version_at vs row (first + k))
get_from vs row first zero k below = absurd (omega (arith, below))
get_from vs row first (suc count) zero below = ap (λ r. Some (version_at vs row r)) {x = first} {y = first + 0} (omega arith)
get_from vs row first (suc count) (suc k) below =
    get_from vs row (first + 1) count k (omega (arith, below)) ∙ ap (λ r. Some (version_at vs row r)) {x = first + 1 + k} {y = first + suc k} (omega arith)

-- the versions of a row are those of its span
pub of_span : (vs : Ranked) (spans : NameMap Span) (name : List ℕ) → versions_of (rows_in vs spans) name ≡ versions_in vs (span_for spans name)
of_span vs spans name =
    ap (λ (o : Option RowChanges). unwrap_or o []) (lookup-map_values (versions_in vs) _ spans)
    ∙ elim (get spans name) as (λ o. unwrap_or (option_map (versions_in vs) o) [] ≡ versions_in vs (unwrap_or o (record { row = length spans; first = 0; count = 0 }))) [
      | None ↦ refl
      | Some span ↦ refl
    ]

pub of_found : (vs : Ranked) (spans : NameMap Span) (name : List ℕ) (span : Span) → get spans name ≡ Some span → versions_of (rows_in vs spans) name ≡ versions_in vs span
of_found vs spans name span is = of_span vs spans name ∙ ap (λ (o : Option Span). versions_in vs (unwrap_or o (record { row = length spans; first = 0; count = 0 }))) is

pub of_none : (vs : Ranked) (spans : NameMap Span) (name : List ℕ) → get spans name ≡ None → versions_of (rows_in vs spans) name ≡ []
of_none vs spans name is = of_span vs spans name ∙ ap (λ (o : Option Span). versions_in vs (unwrap_or o (record { row = length spans; first = 0; count = 0 }))) is

some_span : (a b : Span) → ◌≡◌ {A = Option Span} (Some a) (Some b) → a ≡ b
some_span a b is = cc

-- a span is put for a row, and the versions of other rows stay
span_kept : (now rows more : ℕ) (vs ws : Ranked) (span : Span) → rows ≤ more → ((rank : ℕ) → version_at ws span.row rank ≡ version_at vs span.row rank) → IsSpan now rows vs span → IsSpan now more ws span
span_kept now rows more vs ws span longer same is = record {
  some = is.some;
  numbered = omega (arith, is.numbered, longer);
  rising = subst (RiseWithin 0 now) (sym (from_same vs ws span.row span.first span.count (λ rank _ _. same rank))) is.rising;
  early = λ rank last. subst (λ (v : ℕ × Option Value). rank < v.0) (sym (same rank)) (is.early rank last);
}

module _ (now : ℕ) (spans : NameMap Span) (vs ws : Ranked) (name : List ℕ) (s : Span)
    (are : AreSpans now spans vs)
    (apart : (other : List ℕ) (t : Span) → (other ≡ name → ⊥) → get spans other ≡ Some t → s.row ≡ t.row → ⊥)
    (same : (row rank : ℕ) → (row ≡ s.row → ⊥) → version_at ws row rank ≡ version_at vs row rank) where
  kept_of : (other : List ℕ) (t : Span) → (other ≡ name → ⊥) → get spans other ≡ Some t → (rank : ℕ) → version_at ws t.row rank ≡ version_at vs t.row rank
  kept_of other t not_it found rank = same t.row rank (λ is. apart other t not_it found (sym is))

  cases : (q : List ℕ) (t : Span) → get (with_value name_cmp spans name s) q ≡ Some t → ((q ≡ name) × (s ≡ t)) ⊎ ((q ≡ name → ⊥) × (get spans q ≡ Some t))
  cases q t is =
      ⊎_elim inl (λ old. inr (entry.not_own name_cmp nat_list_cmp_total names_exact q name old.0, old.1)) (entry.with_cases name_cmp nat_list_cmp_total names_exact spans name s q t is)

  each_put : IsSpan now (length (with_value name_cmp spans name s)) ws s → (q : List ℕ) (t : Span) → get (with_value name_cmp spans name s) q ≡ Some t → IsSpan now (length (with_value name_cmp spans name s)) ws t
  each_put is q t found =
      ⊎_elim (λ own. subst (IsSpan now (length (with_value name_cmp spans name s)) ws) own.1 is)
      (λ old. span_kept now (length spans) (length (with_value name_cmp spans name s)) vs ws t (entry.length_kept name_cmp spans name s) (kept_of q t old.0 old.1) (are.each q t old.1))
      (cases q t found)

  apart_put : (a b : List ℕ) (t u : Span) → get (with_value name_cmp spans name s) a ≡ Some t → get (with_value name_cmp spans name s) b ≡ Some u → t.row ≡ u.row → a ≡ b
  apart_put a b t u found_a found_b rows =
      ⊎_elim
      (λ own_a. ⊎_elim (λ own_b. own_a.0 ∙ sym own_b.0) (λ old_b. absurd (apart b u old_b.0 old_b.1 (ap (λ (x : Span). x.row) own_a.1 ∙ rows))) (cases b u found_b))
      (λ old_a. ⊎_elim (λ own_b. absurd (apart a t old_a.0 old_a.1 (ap (λ (x : Span). x.row) own_b.1 ∙ sym rows))) (λ old_b. are.apart a b t u old_a.1 old_b.1 rows) (cases b u found_b))
      (cases a t found_a)

  pub spans_put : T (is_sorted key_cmp ws) → IsSpan now (length (with_value name_cmp spans name s)) ws s → AreSpans now (with_value name_cmp spans name s) ws
  spans_put ordered is = record {
    named = entry.sorted_with name_cmp nat_list_cmp_total spans name s are.named;
    ordered = ordered;
    each = each_put is;
    apart = apart_put;
  }

  row_same : (q : List ℕ) → (q ≡ name → ⊥) → value_for name_cmp (rows_in ws spans) q ≡ value_for name_cmp (rows_in vs spans) q
  row_same q not_it =
      lookup-map_values (versions_in ws) _ spans
      ∙ elim (get spans q) as (λ o. get spans q ≡ o → option_map (versions_in ws) o ≡ option_map (versions_in vs) o) [
        | None ↦ λ _. refl
        | Some t ↦ λ found. ap (λ (x : RowChanges). Some x) (from_same vs ws t.row t.first t.count (λ rank _ _. kept_of q t not_it found rank))
      ] refl
      ∙ sym (lookup-map_values (versions_in vs) _ spans)

  pub rows_put : rows_in ws (with_value name_cmp spans name s) ≡ with_entry (rows_in vs spans) name (versions_in ws s)
  rows_put =
      let x = versions_in ws s in
      let sorted_ws = entry.sorted-values name_cmp (versions_in ws) spans are.named in
      let sorted_vs = entry.sorted-values name_cmp (versions_in vs) spans are.named in
      entry.values-with name_cmp (versions_in ws) spans name s
      ∙ entry.same_values name_cmp nat_list_cmp_total names_exact (with_value name_cmp (rows_in ws spans) name x) (with_value name_cmp (rows_in vs spans) name x)
      (entry.sorted_with name_cmp nat_list_cmp_total (rows_in ws spans) name x sorted_ws)
      (entry.sorted_with name_cmp nat_list_cmp_total (rows_in vs spans) name x sorted_vs)
      (λ q.
      entry.value_for-with name_cmp nat_list_cmp_total (rows_in ws spans) name x q
      ∙ elim (eq_by_cmp name_cmp q name) as (λ b. eq_by_cmp name_cmp q name ≡ b → cond b (Some x) (value_for name_cmp (rows_in ws spans) q) ≡ cond b (Some x) (value_for name_cmp (rows_in vs spans) q)) [
        | true ↦ λ _. refl
        | false ↦ λ other. row_same q (entry.not_own name_cmp nat_list_cmp_total names_exact q name other)
      ] refl
      ∙ sym (entry.value_for-with name_cmp nat_list_cmp_total (rows_in vs spans) name x q))

-- a row in byte order of names
pub entry_found : (spans : NameMap Span) (k : ℕ) (e : List ℕ × Span) → T (is_sorted name_cmp spans) → slice_get spans k ≡ Some e → get spans e.0 ≡ Some e.1
entry_found [] k e sorted is = absurd cc
entry_found (f ∷ spans) zero e sorted is = subst (λ (x : List ℕ × Span). get (f ∷ spans) x.0 ≡ Some x.1) (some f e is) (entry.own_found name_cmp nat_list_cmp_total names_exact f spans)
  where
    some : (x y : List ℕ × Span) → ◌≡◌ {A = Option (List ℕ × Span)} (Some x) (Some y) → x ≡ y
    some x y is = cc
entry_found (f ∷ spans) (suc k) e sorted is =
    entry.later_found name_cmp nat_list_cmp_total names_exact f spans e.0 e.1 sorted (entry_found spans k e (second _ _ sorted) is)

pub entry_shown : (vs : Ranked) (spans : NameMap Span) (k : ℕ) (e : List ℕ × Span) → slice_get spans k ≡ Some e → slice_get (rows_in vs spans) k ≡ Some (e.0, versions_in vs e.1)
entry_shown vs [] k e is = absurd cc
entry_shown vs (f ∷ spans) zero e is = ap (option_map (λ (x : List ℕ × Span). (x.0, versions_in vs x.1))) is
entry_shown vs (f ∷ spans) (suc k) e is = entry_shown vs spans k e is

-- the rows are those of the spans
pub rows_counted : (vs : Ranked) (spans : NameMap Span) → length (rows_in vs spans) ≡ length spans
rows_counted vs [] = refl
rows_counted vs (e ∷ spans) = ap suc (rows_counted vs spans)

pub rows_named : (vs : Ranked) (spans : NameMap Span) → keys_of (rows_in vs spans) ≡ keys_of spans
rows_named vs [] = refl
rows_named vs (e ∷ spans) = ap (λ (names : List (List ℕ)). e.0 ∷ names) (rows_named vs spans)
