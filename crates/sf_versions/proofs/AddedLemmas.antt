-- A version that a commit adds to a row.
use Rattle.std.proofs.Common.{◌≡◌, ℕ, suc, ◌+◌, ◌-◌, ◌<◌, ◌≤◌, cond, List, [], ◌∷◌, ◌++◌, length, Option, Some, None, refl, sym, ap, subst, ◌∙◌, arith}
use Rattle.std.specs.Prelude.{All, unwrap_or}
use Rattle.std.specs.List.{AllByRecursion}
use Rattle.std.specs.List.Sorted.{IsStrictlySortedBy}
use Rattle.std.specs.Map.{keys_of}
use Rattle.std.specs.Ordering.{is_eq}
use Rattle.std.specs.declared.cmp.Ordering.TheVariants.{Less}
use Rattle.sf_types.specs.Values.Names.{name_cmp}
use Rattle.sf_types.specs.Values.Marks.{Value}
use Rattle.sf_types.specs.Inside.NameMaps.{NameMap, get, with_entry}
use Rattle.sf_types.specs.Table.Parts.{Rows}
use Rattle.sf_types.proofs.NameMapLemmas.{get-put}
use Rattle.sf_room_map.specs.Entries.{with_value}
use Rattle.sf_room_map.proofs.EntryLemmas as entry
use Rattle.sf_versions.specs.declared.span.Span.{Span}
use Rattle.sf_versions.specs.RowChanges.{RowChanges, RiseWithin}
use Rattle.sf_versions.specs.VersionTables.{versions_of, with_version, with_versions}
use Rattle.sf_versions.specs.Inside.VersionOrder.{key_cmp, key_cmp_total}
use Rattle.sf_versions.specs.Inside.Spans.{Ranked, key_at, version_at, versions_from, versions_in, rows_in, span_for, IsSpan, AreSpans}
use Rattle.sf_versions.proofs.RiseLemmas.{rise_added, rise_later, rise_below}
use Rattle.sf_versions.proofs.SpanLemmas.{version_here, version_other, other_row, other_rank, from_same, from_last, from_at, length_from, of_span, spans_put, rows_put}

-- the span of a row and one version more
abbrev pub longer : Span → Span
longer s = record { row = s.row; first = s.first; count = s.count + 1 }

abbrev pub with_next : Ranked → Span → ℕ × Option Value → Ranked
with_next vs s v = with_value key_cmp vs (key_at s.row (s.first + s.count)) v

abbrev new_span : NameMap Span → Span
new_span spans = record { row = length spans; first = 0; count = 0 }

pub rising_of : (now : ℕ) (spans : NameMap Span) (vs : Ranked) (name : List ℕ) → AreSpans now spans vs → RiseWithin 0 now (versions_in vs (span_for spans name))
rising_of now spans vs name are =
    elim (get spans name) as (λ o. get spans name ≡ o → RiseWithin 0 now (versions_in vs (unwrap_or o (new_span spans)))) [
      | None ↦ λ _. tt
      | Some t ↦ λ found. (are.each name t found).rising
    ] refl

module _ (number : ℕ) (spans : NameMap Span) (vs : Ranked) (name : List ℕ) (are : AreSpans number spans vs) where
  last_early : (t : Span) → IsSpan number (length spans) vs t → All (λ v. v.0 < number) (versions_in vs t) → t.first + t.count < number
  last_early t is all =
      let k = t.count - 1 in
      let below : k < t.count = omega (arith, is.some) in
      let has_rank : t.first + k < (version_at vs t.row (t.first + k)).0 = is.early (t.first + k) (omega (arith, is.some)) in
      let last : (version_at vs t.row (t.first + k)).0 < number = subst (λ (v : ℕ × Option Value). v.0 < number) (from_at vs t.row t.first t.count k (0, None) below) (all k (0, None) (omega (arith, below, length_of t))) in
      omega (arith, has_rank, last, is.some)
    where
      length_of : (t : Span) → length (versions_in vs t) ≡ t.count
      length_of t = length_from vs t.row t.first t.count

  pub early_of : 1 ≤ number → All (λ v. v.0 < number) (versions_of (rows_in vs spans) name) → (span_for spans name).first + (span_for spans name).count < number
  early_of one all =
      elim (get spans name) as (λ o. get spans name ≡ o → All (λ v. v.0 < number) (versions_in vs (unwrap_or o (new_span spans))) → (unwrap_or o (new_span spans)).first + (unwrap_or o (new_span spans)).count < number) [
        | None ↦ λ _ _. omega (arith, one)
        | Some t ↦ λ found some. last_early t (are.each name t found) some
      ] refl (subst (All (λ v. v.0 < number)) (of_span vs spans name) all)

  numbered_of : (s : Span) → (span_for spans name).row < length (with_value name_cmp spans name s)
  numbered_of s =
      elim (get spans name) as (λ o. get spans name ≡ o → (unwrap_or o (new_span spans)).row < length (with_value name_cmp spans name s)) [
        | None ↦ λ none. entry.length_new name_cmp spans name s none
        | Some t ↦ λ found. omega (arith, (are.each name t found).numbered, entry.length_kept name_cmp spans name s)
      ] refl

  apart_of : (other : List ℕ) (t : Span) → (other ≡ name → ⊥) → get spans other ≡ Some t → (span_for spans name).row ≡ t.row → ⊥
  apart_of other t not_it found same =
      elim (get spans name) as (λ o. get spans name ≡ o → (unwrap_or o (new_span spans)).row ≡ t.row → ⊥) [
        | None ↦ λ _ is. absurd (omega (arith, is, (are.each other t found).numbered))
        | Some u ↦ λ own is. not_it (sym (are.apart name other u t own found is))
      ] refl same

-- the versions of a span with one more
next_versions : (vs : Ranked) (s : Span) (v : ℕ × Option Value) → versions_in (with_next vs s v) (longer s) ≡ versions_in vs s ++ v ∷ []
next_versions vs s v =
    let ws = with_next vs s v in
    let at = s.first + s.count in
    ap (versions_from ws s.row s.first) {x = s.count + 1} {y = suc s.count} (omega arith)
    ∙ from_last ws s.row s.first s.count
    ∙ ap (λ (front : RowChanges). front ++ version_at ws s.row at ∷ []) (from_same vs ws s.row s.first s.count (λ rank _ below. version_other vs (key_at s.row at) v s.row rank (other_rank s.row at rank (λ is. absurd (omega (arith, below, is))))))
    ∙ ap (λ (w : ℕ × Option Value). versions_in vs s ++ w ∷ []) (version_here vs s.row at v)

module _ (number : ℕ) (spans : NameMap Span) (vs : Ranked) (name : List ℕ) (x : Option Value) (are : AreSpans number spans vs) (one : 1 ≤ number) (all : All (λ v. v.0 < number) (versions_of (rows_in vs spans) name)) where
  next_is : (span : Span) → span ≡ span_for spans name → IsSpan number (length (with_value name_cmp spans name (longer span))) (with_next vs span (number, x)) (longer span)
  next_is span is =
      let ws = with_next vs span (number, x) in
      let early : span.first + span.count < number = subst (λ (t : Span). t.first + t.count < number) (sym is) (early_of number spans vs name are one all) in
      let before : All (λ v. v.0 < number) (versions_in vs span) = subst (λ (t : Span). All (λ v. v.0 < number) (versions_in vs t)) (sym is) (subst (All (λ v. v.0 < number)) (of_span vs spans name) all) in
      let rising : RiseWithin 0 number (versions_in vs span) = subst (λ (t : Span). RiseWithin 0 number (versions_in vs t)) (sym is) (rising_of number spans vs name are) in
      record {
        some = omega arith;
        numbered = subst (λ (t : Span). t.row < length (with_value name_cmp spans name (longer span))) (sym is) (numbered_of number spans vs name are (longer span));
        rising = subst (RiseWithin 0 number) (sym (next_versions vs span (number, x))) (rise_added 0 number (versions_in vs span) number x rising before (omega (arith, one)) (omega arith));
        early = λ rank last.
            let at : rank ≡ span.first + span.count = omega (arith, last) in
            subst (λ r. r < (version_at ws span.row r).0) (sym at)
            (subst (λ (v : ℕ × Option Value). span.first + span.count < v.0) (sym (version_here vs span.row (span.first + span.count) (number, x))) early);
      }

  pub spans_added : (span : Span) → span ≡ span_for spans name → AreSpans number (with_value name_cmp spans name (longer span)) (with_next vs span (number, x))
  spans_added span is =
      spans_put number spans vs (with_next vs span (number, x)) name (longer span) are
      (λ other t not_it found same. apart_of number spans vs name are other t not_it found (ap (λ (t : Span). t.row) (sym is) ∙ same))
      (λ row rank apart. version_other vs (key_at span.row (span.first + span.count)) (number, x) row rank (other_row span.row (span.first + span.count) row rank apart))
      (entry.sorted_with key_cmp key_cmp_total vs (key_at span.row (span.first + span.count)) (number, x) are.ordered)
      (next_is span is)

  pub rows_added : (span : Span) → span ≡ span_for spans name → rows_in (with_next vs span (number, x)) (with_value name_cmp spans name (longer span)) ≡ with_version (rows_in vs spans) number (name, x)
  rows_added span is =
      rows_put number spans vs (with_next vs span (number, x)) name (longer span) are
      (λ other t not_it found same. apart_of number spans vs name are other t not_it found (ap (λ (t : Span). t.row) (sym is) ∙ same))
      (λ row rank apart. version_other vs (key_at span.row (span.first + span.count)) (number, x) row rank (other_row span.row (span.first + span.count) row rank apart))
      ∙ ap (with_entry (rows_in vs spans) name) (next_versions vs span (number, x) ∙ ap (λ (front : RowChanges). front ++ (number, x) ∷ []) (ap (versions_in vs) is ∙ sym (of_span vs spans name)))

-- the versions may have come from fewer commits
pub spans_later : (now later : ℕ) (spans : NameMap Span) (vs : Ranked) → now ≤ later → AreSpans now spans vs → AreSpans later spans vs
spans_later now later spans vs more are = record {
  named = are.named;
  ordered = are.ordered;
  each = λ name span found. let is = are.each name span found in record {
    some = is.some;
    numbered = is.numbered;
    rising = rise_later 0 now later (versions_in vs span) more is.rising;
    early = is.early;
  };
  apart = are.apart;
}

-- a name that comes before all of some changes isn't among them
pub names_behind : (front done : Rows) (c : List ℕ × Option Value) → IsStrictlySortedBy name_cmp (keys_of (front ++ c ∷ done)) → AllByRecursion (λ k. name_cmp c.0 k ≡ Less) (keys_of done)
unfolding IsStrictlySortedBy
names_behind [] done c rising = rising.0
names_behind (e ∷ front) done c rising = names_behind front done c rising.1

pub row_stays : (rows : NameMap RowChanges) (number : ℕ) (done : Rows) (name : List ℕ) → AllByRecursion (λ k. name_cmp name k ≡ Less) (keys_of done) → versions_of (with_versions rows number done) name ≡ versions_of rows name
row_stays rows number [] name all = refl
row_stays rows number (c ∷ done) name all =
    let others = with_versions rows number done in
    let added = versions_of others c.0 ++ (number, c.1) ∷ [] in
    ap (λ (o : Option RowChanges). unwrap_or o []) (get-put others c.0 added name ∙ ap (λ r. cond (is_eq r) (Some added) (get others name)) all.0)
    ∙ row_stays rows number done name all.1

-- all versions of a row were made before the commit
pub made_before : (number : ℕ) (spans : NameMap Span) (vs : Ranked) (name : List ℕ) → 1 ≤ number → AreSpans (number - 1) spans vs → All (λ v. v.0 < number) (versions_of (rows_in vs spans) name)
made_before number spans vs name one are =
    subst (All (λ v. v.0 < number)) (sym (of_span vs spans name))
    (subst (λ n. All (λ (v : ℕ × Option Value). v.0 < n) (versions_in vs (span_for spans name))) {x = number - 1 + 1} {y = number} (omega (arith, one)) (rise_below 0 (number - 1) (versions_in vs (span_for spans name)) (rising_of (number - 1) spans vs name are)))

pub no_names : IsStrictlySortedBy name_cmp (keys_of {K = List ℕ} {X = Option Value} [])
unfolding IsStrictlySortedBy
no_names = tt

below_pushed : (k : List ℕ) (es : Rows) (c : List ℕ × Option Value) → AllByRecursion (λ y. name_cmp k y ≡ Less) (keys_of es) → name_cmp k c.0 ≡ Less → AllByRecursion (λ y. name_cmp k y ≡ Less) (keys_of (es ++ c ∷ []))
below_pushed k [] c all last = (last, tt)
below_pushed k (e ∷ es) c all last = (all.0, below_pushed k es c all.1 last)

-- names still rise with one behind them that comes after all
pub names_pushed : (es : Rows) (c : List ℕ × Option Value) → IsStrictlySortedBy name_cmp (keys_of es) → All (λ (other : List ℕ × Option Value). name_cmp other.0 c.0 ≡ Less) es → IsStrictlySortedBy name_cmp (keys_of (es ++ c ∷ []))
unfolding IsStrictlySortedBy
names_pushed [] c rising all = (tt, tt)
names_pushed (e ∷ es) c rising all = (below_pushed e.0 es c rising.0 (all 0 e (omega arith)), names_pushed es c rising.1 (λ k d below. all (suc k) d (omega (arith, below))))
