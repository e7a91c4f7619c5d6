-- Each version that is due is named once.
use Rattle.std.proofs.Common.{◌≡◌, ℕ, zero, suc, ◌+◌, ◌-◌, ◌≤◌, ◌<◌, Bool, true, false, cond, List, [], ◌∷◌, length, map, Option, Some, None, refl, sym, ap, subst, ◌∙◌, arith}
use Rattle.std.specs.Prelude.{T, ◌≢◌, filter, slice_index_or, IsSome}
use Rattle.std.specs.List.{AllByRecursion as Each}
use Rattle.std.specs.Option.{option_map_or}
use Rattle.std.specs.Ordering.{nat_cmp, eq_by_cmp, is_eq, is_lt}
use Rattle.std.specs.declared.cmp.Ordering.TheVariants.{Equal, Less}
use Rattle.std.specs.Cmp.{nat_cmp_is, nat_cmp_total}
use Rattle.std.specs.FinMap.Entries.{below_all, is_sorted}
use Rattle.sf_types.proofs.BoolLemmas.{both, first, second}
use Rattle.sf_types.proofs.NameMapLemmas.{same_name}
use Rattle.sf_types.specs.declared.holder.Holder.TheVariants as holder
use Rattle.sf_types.specs.Inside.NameMaps.{get, is_same_name}
use Rattle.sf_types.specs.Values.Marks.{Value}
use Rattle.sf_types.specs.Table.Parts.{Rows}
use Rattle.sf_types.specs.Space.Reach.{is_kept}
use Rattle.sf_types.specs.Halves.Asks.{Half}
use Rattle.sf_types.specs.Halves.Flushes.{table_of_half}
use Rattle.sf_laws.proofs.EachLemmas.{each-append, each-filter, each_weaker}
use Rattle.sf_laws.proofs.LockLemmas.{own_name}
use Rattle.sf_room_map.specs.Entries.{value_for, without_key}
use Rattle.sf_room_map.proofs.EntryLemmas.{sorted_without, value_for-without}
use Rattle.sf_retention.specs.declared.retention.Pair.{Pair}
use Rattle.sf_retention.specs.Notes.{due_pairs}
use Rattle.sf_versions.specs.RowChanges.{RowChanges, changes_of}
use Rattle.sf_versions.specs.VersionTables.{VersionTable, versions_of, without_version}
use Rattle.sf_store_half.specs.Fields.{Fields, Keeps, displaced_by}
use Rattle.sf_store_half.specs.Inside.Floors.{AreDisplaced}
use Rattle.sf_store_half.specs.Inside.Promises.{holders_at}
use Rattle.sf_store_half.specs.Inside.Trials.{AreHoldersOnce, version_of}
use Rattle.sf_store_half.proofs.FloorLemmas.{past_before}
use Rattle.sf_store_half.proofs.GivenUpLemmas.{versions_with}
use Rattle.sf_store_half.proofs.NoteLemmas.{each_made, is_noted, notes_between}
use Rattle.sf_store_half.proofs.RaisedKeepsLemmas.{is_raised}

-- ---- a row's versions are numbered in rising order
below_from : (n : ℕ) (vs : RowChanges) → Each (λ v. n < v.0) vs → T (below_all nat_cmp n vs)
below_from n [] past = tt
below_from n (v ∷ vs) past = both _ _ (subst (λ r. T (is_lt r)) (nat_cmp_is n v.0 Less past.0) tt) (below_from n vs past.1)

one_below : (n : ℕ) (v : ℕ × Option Value) → n + 1 < v.0 → n < v.0
one_below n v past = omega (arith, past)

sorted_changes : (before : ℕ) (cs : List Rows) (row : List ℕ) → T (is_sorted nat_cmp (changes_of before cs row))
sorted_changes before [] row = tt
sorted_changes before (c ∷ cs) row =
    let rest = sorted_changes (before + 1) cs row in
    elim (get c row) as (λ found. T (is_sorted nat_cmp (option_map_or (λ change. (before + 1, change) ∷ changes_of (before + 1) cs row) found (changes_of (before + 1) cs row)))) [
      | None ↦ rest
      | Some x ↦ both _ _ (below_from (before + 1) (changes_of (before + 1) cs row) (past_before (before + 1) cs row)) rest
    ]

below_filtered : (p : ℕ × Option Value → Bool) (n : ℕ) (vs : RowChanges) → T (below_all nat_cmp n vs) → T (below_all nat_cmp n (filter p vs))
below_filtered p n [] below = tt
below_filtered p n (v ∷ vs) below =
    let rest = below_filtered p n vs (second _ _ below) in
    elim (p v) as (λ t. T (below_all nat_cmp n (cond {A = RowChanges} t (v ∷ filter p vs) (filter p vs)))) [
      | true ↦ both _ _ (first _ _ below) rest
      | false ↦ rest
    ]

sorted_filtered : (p : ℕ × Option Value → Bool) (vs : RowChanges) → T (is_sorted nat_cmp vs) → T (is_sorted nat_cmp (filter p vs))
sorted_filtered p [] sorted = tt
sorted_filtered p (v ∷ vs) sorted =
    let rest = sorted_filtered p vs (second _ _ sorted) in
    elim (p v) as (λ t. T (is_sorted nat_cmp (cond {A = RowChanges} t (v ∷ filter p vs) (filter p vs)))) [
      | true ↦ both _ _ (below_filtered p v.0 vs (first _ _ sorted)) rest
      | false ↦ rest
    ]

abbrev AreRising : VersionTable → Type 0
AreRising t = (row : List ℕ) → T (is_sorted nat_cmp (versions_of t.rows row))

rising_kept : (f : Fields) (h : Half) → Keeps f h → AreRising f.versions
rising_kept f h keeps row =
    subst (λ (vs : RowChanges). T (is_sorted nat_cmp vs)) (sym (keeps.rows row))
    (sorted_filtered (λ version. is_kept (table_of_half h) row version.0) (changes_of 0 h.commits row) (sorted_changes 0 h.commits row))

rising_without : (t : VersionTable) (name : List ℕ) (from : ℕ) → AreRising t → AreRising (without_version t name from)
rising_without t name from rising row =
    subst (λ (vs : RowChanges). T (is_sorted nat_cmp vs)) (sym (versions_with t.rows name (without_key nat_cmp (versions_of t.rows name) from) row))
    (elim (is_same_name row name) as (λ u. T (is_sorted nat_cmp (cond {A = RowChanges} u (without_key nat_cmp (versions_of t.rows name) from) (versions_of t.rows row)))) [
      | true ↦ sorted_without nat_cmp nat_cmp_total from (versions_of t.rows name) (rising name)
      | false ↦ rising row
    ])

-- ---- a version that was given up is gone, and stays so
abbrev IsGone : VersionTable → List ℕ → ℕ → Type 0
IsGone t name from = value_for nat_cmp (versions_of t.rows name) from ≡ None

gone_now : (t : VersionTable) (name : List ℕ) (from : ℕ) → AreRising t → IsGone (without_version t name from) name from
gone_now t name from rising =
    let vs = versions_of t.rows name in
    ap (λ (ws : RowChanges). value_for nat_cmp ws from) (versions_with t.rows name (without_key nat_cmp vs from) name ∙ ap (λ u. cond {A = RowChanges} u (without_key nat_cmp vs from) vs) (own_name name))
    ∙ value_for-without nat_cmp nat_cmp_total vs from from (rising name)
    ∙ ap (λ r. cond {A = Option (Option Value)} (is_eq r) None (value_for nat_cmp vs from)) (sym (nat_cmp_is from from Equal refl))

stays_gone : (t : VersionTable) (name other : List ℕ) (from n : ℕ) → AreRising t → IsGone t name from → IsGone (without_version t other n) name from
stays_gone t name other from n rising gone =
    let vs = versions_of t.rows other in
    ap (λ (ws : RowChanges). value_for nat_cmp ws from) (versions_with t.rows other (without_key nat_cmp vs n) name)
    ∙ elim (is_same_name name other) as (λ u. is_same_name name other ≡ u → value_for nat_cmp (cond {A = RowChanges} u (without_key nat_cmp vs n) (versions_of t.rows name)) from ≡ None) [
      | true ↦ λ is.
          value_for-without nat_cmp nat_cmp_total vs n from (rising other)
          ∙ ap (cond {A = Option (Option Value)} (eq_by_cmp nat_cmp from n) None) (ap (λ row. value_for nat_cmp (versions_of t.rows row) from) (sym (same_name name other is)) ∙ gone)
          ∙ either (eq_by_cmp nat_cmp from n)
      | false ↦ λ _. gone
    ] refl
  where
    either : (u : Bool) → cond {A = Option (Option Value)} u None None ≡ None
    either true = refl
    either false = refl

others_apart : (t : VersionTable) (name : List ℕ) (from : ℕ) (ps : List Pair) → AreRising t → IsGone t name from → AreDisplaced t ps → Each (λ y. holder.Version name from ≢ y) (map version_of ps)
others_apart t name from [] rising gone displaced = tt
others_apart t name from (p ∷ ps) rising gone displaced =
    (λ same. apart same, others_apart (without_version t p.name p.from) name from ps (rising_without t p.name p.from rising) (stays_gone t name p.name from p.from rising gone) displaced.1)
  where
    apart : holder.Version name from ≡ holder.Version p.name p.from → ⊥
    apart same =
        let row : name ≡ p.name = cc in
        let number : from ≡ p.from = cc in
        let missing : value_for nat_cmp (versions_of t.rows p.name) p.from ≡ None = subst (λ r. value_for nat_cmp (versions_of t.rows r) p.from ≡ None) row (subst (λ n. value_for nat_cmp (versions_of t.rows name) n ≡ None) number gone) in
        let bad = subst IsSome missing displaced.0.made in
        absurd cc

once : (t : VersionTable) (ps : List Pair) → AreRising t → AreDisplaced t ps → AreHoldersOnce (map version_of ps)
once t [] rising displaced = tt
once t (p ∷ ps) rising displaced =
    let after = rising_without t p.name p.from rising in
    (others_apart (without_version t p.name p.from) p.name p.from ps after (gone_now t p.name p.from rising) displaced.1, once (without_version t p.name p.from) ps after displaced.1)

no_session : (s : ℕ) (ps : List Pair) → Each (λ y. holder.Session s ≢ y) (map version_of ps)
no_session s [] = tt
no_session s (p ∷ ps) = ((λ same. absurd cc), no_session s ps)

-- the holders that a trial gives up are named once
pub holders_once : (f : Fields) (h : Half) (s floor : ℕ) → Keeps f h → h.floor ≤ floor → floor ≤ length h.commits → AreHoldersOnce (holders_at f s floor)
holders_once f h s floor keeps low high =
    (no_session s (due_pairs f.notes floor), once f.versions (due_pairs f.notes floor) (rising_kept f h keeps) (is_raised f h floor keeps low high).displaced_each)

-- ---- each note is of a commit that there was
each_between : (commits : List Rows) (low count : ℕ) → Each (λ note. note.until < low + count) (notes_between commits low count)
each_between commits low zero = tt
each_between commits low (suc count) =
    each-append (λ note. note.until < low + suc count) (displaced_by commits low) (notes_between commits (low + 1) count)
    (each_weaker (λ note. note.until ≡ low) (λ note. note.until < low + suc count) (displaced_by commits low) (λ note is. omega (arith, is)) (each_made commits low (slice_index_or commits (low - 1) [])))
    (each_weaker (λ note. note.until < low + 1 + count) (λ note. note.until < low + suc count) (notes_between commits (low + 1) count) (λ note less. omega (arith, less)) (each_between commits (low + 1) count))

pub each_until_now : (f : Fields) (h : Half) → Keeps f h → Each (λ note. note.until ≤ f.versions.now) f.notes
each_until_now f h keeps =
    let now = keeps.now in
    subst (Each (λ note. note.until ≤ f.versions.now)) (sym keeps.notes)
    (each-filter (λ note. note.until ≤ f.versions.now) (is_noted h.floor) (notes_between h.commits 1 (length h.commits))
    (each_weaker (λ note. note.until < 1 + length h.commits) (λ note. note.until ≤ f.versions.now) (notes_between h.commits 1 (length h.commits)) (λ note less. omega (arith, less, now)) (each_between h.commits 1 (length h.commits))))
