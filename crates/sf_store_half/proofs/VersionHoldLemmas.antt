-- What versions hold, by the versions that are kept of each row.
use Rattle.std.proofs.Common.{◌≡◌, ℕ, zero, suc, ◌+◌, ◌-◌, ◌≤◌, ◌<◌, Bool, true, false, cond, List, [], ◌∷◌, Option, Some, None, refl, sym, ap, ◌∙◌, arith}
use Rattle.std.specs.Prelude.{◌&&◌, filter, nat_le, nat_lt, slice_index_or}
use Rattle.std.specs.List.{AllByRecursion as Each}
use Rattle.std.specs.Option.{option_map_or}
use Rattle.std.specs.Ordering.{nat_cmp, is_eq}
use Rattle.std.specs.Cmp.{nat_cmp_is, nat_cmp_total}
use Rattle.std.specs.FinMap.{nat_cmp-IsAntisymmetric}
use Rattle.std.specs.declared.cmp.Ordering.{Ordering}
use Rattle.std.specs.declared.cmp.Ordering.TheVariants.{Less, Equal, Greater}
use Rattle.sf_types.proofs.NumberLemmas.{less, not_less}
use Rattle.std.proofs.lemmas.Bool.Decides.{nat_tests}
use Rattle.sf_types.specs.declared.holder.Holder.TheVariants as holder
use Rattle.sf_types.specs.Inside.NameMaps.{get}
use Rattle.sf_types.specs.Values.Marks.{Value, births_in}
use Rattle.sf_types.specs.Table.Parts.{Rows}
use Rattle.sf_types.specs.Table.Versions.{value_or_absent}
use Rattle.sf_types.specs.Space.Reach.{is_kept}
use Rattle.sf_types.specs.Halves.Asks.{Half}
use Rattle.sf_types.specs.Halves.Flushes.{table_of_half}
use Rattle.sf_room_map.specs.Entries.{value_for}
use Rattle.sf_room_map.proofs.EntryLemmas.{same_key}
use Rattle.sf_versions.specs.RowChanges.{RowChanges, changes_of}
use Rattle.sf_store_half.specs.Fields.{held_in, kept_versions}
use Rattle.sf_store_half.proofs.FloorLemmas.{past_before}

-- the births of a row's version, by its versions
abbrev pub births_of_version : RowChanges → ℕ → List ℕ
births_of_version vs n = option_map_or births_in (value_or_absent (value_for nat_cmp vs n)) []

-- a version that isn't there, since the others are numbered past it
pub not_past : (vs : RowChanges) (n : ℕ) → Each (λ v. n < v.0) vs → value_for nat_cmp vs n ≡ None
not_past [] n all = refl
not_past (v ∷ vs) n all = ap (λ r. cond (is_eq r) (Some v.1) (value_for nat_cmp vs n)) (sym (nat_cmp_is n v.0 Less all.0)) ∙ not_past vs n all.1

-- what a test leaves of the version with a number
filtered_at : (test : ℕ → Bool) (vs : RowChanges) (n : ℕ) → value_for nat_cmp (filter (λ v. test v.0) vs) n ≡ cond (test n) (value_for nat_cmp vs n) None
filtered_at test [] n = sym (either (test n))
  where
    either : (t : Bool) → cond {A = Option (Option Value)} t None None ≡ None
    either true = refl
    either false = refl
filtered_at test (v ∷ vs) n =
    let rest = filtered_at test vs n in
    elim (is_eq (nat_cmp n v.0)) as (λ t. is_eq (nat_cmp n v.0) ≡ t → value_for nat_cmp (filter (λ w. test w.0) (v ∷ vs)) n ≡ cond (test n) (cond t (Some v.1) (value_for nat_cmp vs n)) None) [
      | true ↦ λ is. here is rest (test v.0) refl
      | false ↦ λ is. other is rest (test v.0)
    ] refl
  where
    here : is_eq (nat_cmp n v.0) ≡ true → value_for nat_cmp (filter (λ w. test w.0) vs) n ≡ cond (test n) (value_for nat_cmp vs n) None → (t : Bool) → test v.0 ≡ t
        → value_for nat_cmp (cond t (v ∷ filter (λ w. test w.0) vs) (filter (λ w. test w.0) vs)) n ≡ cond (test n) (Some v.1) None
    here is rest true passes =
        let own : test n ≡ true = ap test (same_key nat_cmp nat_cmp_total nat_cmp-IsAntisymmetric n v.0 is) ∙ passes in
        ap (λ t. cond t (Some v.1) (value_for nat_cmp (filter (λ w. test w.0) vs) n)) is ∙ ap (λ t. cond {A = Option (Option Value)} t (Some v.1) None) (sym own)
    here is rest false fails =
        let own : test n ≡ false = ap test (same_key nat_cmp nat_cmp_total nat_cmp-IsAntisymmetric n v.0 is) ∙ fails in
        rest ∙ ap (λ t. cond {A = Option (Option Value)} t (value_for nat_cmp vs n) None) own ∙ ap (λ t. cond {A = Option (Option Value)} t (Some v.1) None) (sym own)

    other : is_eq (nat_cmp n v.0) ≡ false → value_for nat_cmp (filter (λ w. test w.0) vs) n ≡ cond (test n) (value_for nat_cmp vs n) None → (t : Bool)
        → value_for nat_cmp (cond t (v ∷ filter (λ w. test w.0) vs) (filter (λ w. test w.0) vs)) n ≡ cond (test n) (value_for nat_cmp vs n) None
    other is rest true = ap (λ t. cond t (Some v.1) (value_for nat_cmp (filter (λ w. test w.0) vs) n)) is ∙ rest
    other is rest false = rest

-- the version that a commit made of a row
made_at : (before : ℕ) (cs : List Rows) (row : List ℕ) (n : ℕ) → value_for nat_cmp (changes_of before cs row) n ≡ cond (nat_lt before n) (get (slice_index_or cs (n - (before + 1)) []) row) None
made_at before [] row n = sym (either (nat_lt before n))
  where
    either : (t : Bool) → cond {A = Option (Option Value)} t None None ≡ None
    either true = refl
    either false = refl
made_at before (c ∷ cs) row n = by_number (made_at (before + 1) cs row n) (nat_lt before n) refl (nat_lt (before + 1) n) refl
  where
    weaker : n ≤ before + 1 → (vs : RowChanges) → Each (λ v. before + 1 < v.0) vs → Each (λ v. n < v.0) vs
    weaker low [] all = tt
    weaker low (v ∷ vs) all = (omega (arith, low, all.0), weaker low vs all.1)

    early : n ≤ before + 1 → value_for nat_cmp (changes_of (before + 1) cs row) n ≡ None
    early low = not_past (changes_of (before + 1) cs row) n (weaker low (changes_of (before + 1) cs row) (past_before (before + 1) cs row))

    -- where the first commit isn't the n-th
    beside : (found : Option (Option Value)) (r : Ordering) → r ≡ nat_cmp n (before + 1) → is_eq r ≡ false
        → value_for nat_cmp (option_map_or (λ change. (before + 1, change) ∷ changes_of (before + 1) cs row) found (changes_of (before + 1) cs row)) n ≡ value_for nat_cmp (changes_of (before + 1) cs row) n
    beside None r is apart = refl
    beside (Some x) r is apart = ap (λ q. cond (is_eq q) (Some x) (value_for nat_cmp (changes_of (before + 1) cs row) n)) (sym is) ∙ ap (λ t. cond t (Some x) (value_for nat_cmp (changes_of (before + 1) cs row) n)) apart

    -- where it is
    itself : (found : Option (Option Value)) → n ≡ before + 1 → value_for nat_cmp (option_map_or (λ change. (before + 1, change) ∷ changes_of (before + 1) cs row) found (changes_of (before + 1) cs row)) n ≡ found
    itself None is = early (omega (arith, is))
    itself (Some x) is = ap (λ r. cond (is_eq r) (Some x) (value_for nat_cmp (changes_of (before + 1) cs row) n)) (sym (nat_cmp_is n (before + 1) Equal is))

    by_number : value_for nat_cmp (changes_of (before + 1) cs row) n ≡ cond (nat_lt (before + 1) n) (get (slice_index_or cs (n - (before + 1 + 1)) []) row) None
        → (t : Bool) → nat_lt before n ≡ t → (u : Bool) → nat_lt (before + 1) n ≡ u
        → value_for nat_cmp (changes_of before (c ∷ cs) row) n ≡ cond (nat_lt before n) (get (slice_index_or (c ∷ cs) (n - (before + 1)) []) row) None
    by_number rest t is true later =
        let past : before + 1 < n = less (before + 1) n later in
        let within : nat_lt before n ≡ true = grind (arith, nat_tests) in
        let next : n - (before + 1) ≡ suc (n - (before + 1 + 1)) = omega (arith, past) in
        beside (get c row) Greater (nat_cmp_is n (before + 1) Greater past) refl
        ∙ rest
        ∙ ap (λ b. cond b (get (slice_index_or cs (n - (before + 1 + 1)) []) row) None) later
        ∙ ap (λ k. get (slice_index_or (c ∷ cs) k []) row) (sym next)
        ∙ ap (λ b. cond b (get (slice_index_or (c ∷ cs) (n - (before + 1)) []) row) None) (sym within)
    by_number rest true is false later =
        let low : n ≤ before + 1 = not_less (before + 1) n later in
        let high : before < n = less before n is in
        let same : n ≡ before + 1 = omega (arith, low, high) in
        let first : n - (before + 1) ≡ zero = omega (arith, same) in
        itself (get c row) same
        ∙ ap (λ k. get (slice_index_or (c ∷ cs) k []) row) (sym first)
        ∙ ap (λ b. cond b (get (slice_index_or (c ∷ cs) (n - (before + 1)) []) row) None) (sym is)
    by_number rest false is false later =
        let low : n ≤ before = not_less before n is in
        beside (get c row) Less (nat_cmp_is n (before + 1) Less (omega (arith, low))) refl
        ∙ early (omega (arith, low))
        ∙ ap (λ b. cond b (get (slice_index_or (c ∷ cs) (n - (before + 1)) []) row) None) (sym is)

-- what a version holds, by the kept versions of its row
pub version_held : (h : Half) (row : List ℕ) (n : ℕ) → held_in h (holder.Version row n) ≡ births_of_version (kept_versions h row) n
version_held h row n =
    let made = made_at 0 h.commits row n in
    let index : n - (0 + 1) ≡ n - 1 = omega arith in
    let first : nat_lt 0 n ≡ nat_le 1 n = refl in
    sym (
    ap (λ o. option_map_or births_in (value_or_absent o) []) (filtered_at (λ k. is_kept (table_of_half h) row k) (changes_of 0 h.commits row) n
    ∙ ap (λ o. cond (is_kept (table_of_half h) row n) o None) (made ∙ ap (λ k. cond (nat_le 1 n) (get (slice_index_or h.commits k []) row) None) index))
    ∙ both (nat_le 1 n) (is_kept (table_of_half h) row n) (get (slice_index_or h.commits (n - 1) []) row)
    )
  where
    both : (t u : Bool) (o : Option (Option Value)) → option_map_or births_in (value_or_absent (cond u (cond t o None) None)) [] ≡ cond {A = List ℕ} (t && u) (option_map_or births_in (value_or_absent o) []) []
    both true true o = refl
    both true false o = refl
    both false true o = refl
    both false false o = refl
