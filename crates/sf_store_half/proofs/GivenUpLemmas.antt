-- Versions that are given up as the floor rises.
use Rattle.std.proofs.Common.{◌≡◌, ℕ, zero, suc, ◌+◌, ◌-◌, ◌≤◌, ◌<◌, Bool, true, false, cond, List, [], ◌∷◌, ◌++◌, length, take, drop, map, Option, Some, None, refl, sym, ap, subst, ◌∙◌, arith}
use Rattle.std.specs.Prelude.{IsSome, IfSome, is_some, filter_map, slice_get, unwrap_or, ◌&&◌}
use Rattle.std.specs.List.{AllByRecursion as Each, cons_option}
use Rattle.std.specs.Option.{option_map, option_map_or}
use Rattle.std.specs.Ordering.{nat_cmp, is_eq, eq_by_cmp, ordering_then}
use Rattle.std.specs.Cmp.{nat_cmp_is, nat_cmp_total}
use Rattle.std.specs.FinMap.{nat_cmp-IsAntisymmetric}
use Rattle.std.specs.declared.cmp.Ordering.{Ordering}
use Rattle.std.specs.declared.cmp.Ordering.TheVariants.{Less, Equal, Greater}
use Rattle.sf_types.specs.Values.Names.{name_cmp}
use Rattle.std.proofs.lemmas.List.{length-take-le}
use Rattle.sf_types.specs.declared.holder.Holder.TheVariants as holder
use Rattle.sf_types.specs.Inside.NameMaps.{NameMap, get, has, is_same_name, with_entry}
use Rattle.sf_types.specs.Values.Marks.{Value, births_in}
use Rattle.sf_types.specs.Table.Parts.{Rows}
use Rattle.sf_types.proofs.NameMapLemmas.{IsRisingMap, get-put, same_name}
use Rattle.sf_laws.proofs.RisingLockLemmas.{rising_head}
use Rattle.sf_laws.proofs.LockLemmas.{own_name}
use Rattle.sf_room_map.specs.Entries.{value_for, without_key}
use Rattle.sf_room_map.proofs.EntryLemmas.{same_key}
use Rattle.sf_retention.specs.declared.retention.Note.{Note}
use Rattle.sf_retention.specs.declared.retention.Pair.{Pair}
use Rattle.sf_retention.specs.Notes.{note_of, pair_of}
use Rattle.sf_store_half.specs.Inside.Floors.{versions_without, holdings_without, AreDisplaced}
use Rattle.sf_versions.specs.RowChanges.{RowChanges, changes_of, last_number}
use Rattle.sf_versions.specs.VersionTables.{VersionTable, IsDisplaced, versions_of, without_version}
use Rattle.sf_store_half.proofs.FloorLemmas.{displaced, each_of, kept_at_number, kept_next, last_of, past_before, within_last}
use Rattle.sf_store_half.proofs.VersionHoldLemmas.{not_past, births_of_version}
use Rattle.sf_store_half.proofs.HeldLemmas.{held_after, is_holder}
use Rattle.sf_lifetimes.specs.Ledgers.{Holdings, held_by, with_births}
use Rattle.sf_types.specs.Table.Versions.{value_or_absent}

-- the last version of a row, by its number
last_shape : (vs : RowChanges) (from : ℕ) → last_number vs ≡ Some from → (y : Option Value) × (last_of vs ≡ (from, y) ∷ [])
last_shape [] from is = absurd cc
last_shape (v ∷ []) from is = let same : v.0 ≡ from = cc in (v.1, ap (λ n. (n, v.1) ∷ []) same)
last_shape (v ∷ w ∷ vs) from is =
    let next : length (v ∷ w ∷ vs) - 1 ≡ suc (length (w ∷ vs) - 1) = omega arith in
    let rest = last_shape (w ∷ vs) from (ap (λ n. option_map (λ (x : ℕ × Option Value). x.0) (slice_get (v ∷ w ∷ vs) n)) (sym next) ∙ is) in
    (rest.0, ap (λ n. drop n (v ∷ w ∷ vs)) next ∙ rest.1)

each_last : (P : ℕ × Option Value → Type 0) (vs : RowChanges) → Each P vs → Each P (last_of vs)
each_last P vs all = each_dropped (length vs - 1) vs all
  where
    each_dropped : (n : ℕ) (ws : RowChanges) → Each P ws → Each P (drop n ws)
    each_dropped zero ws every = every
    each_dropped (suc n) [] every = tt
    each_dropped (suc n) (w ∷ ws) every = each_dropped n ws every.1

-- the versions of a row from which one is given up: that one, and those of later commits
pub shape : (commits : List Rows) (k : ℕ) (row : List ℕ) (from : ℕ) → k ≤ length commits → displaced commits k row ≡ Some from
    → (y : Option Value) × (kept_at_number commits k row ≡ (from, y) ∷ changes_of k (drop k commits) row) × (from ≤ k)
shape commits k row from within is =
    let front = changes_of 0 (take k commits) row in
    let last = last_shape front from is in
    let low = subst (Each (λ v. v.0 ≤ 0 + length (take k commits))) last.1 (each_last (λ v. v.0 ≤ 0 + length (take k commits)) front (within_last 0 (take k commits) row)) in
    (last.0, ap (λ (vs : RowChanges). vs ++ changes_of k (drop k commits) row) last.1, omega (arith, low.0, length-take-le k commits within))

-- what is left of versions once the first of them is gone
head_gone : (from : ℕ) (y : Option Value) (rest : RowChanges) (n : ℕ) → Each (λ v. from < v.0) rest
    → value_for nat_cmp (without_key nat_cmp ((from, y) ∷ rest) from) n ≡ cond (eq_by_cmp nat_cmp n from) None (value_for nat_cmp ((from, y) ∷ rest) n)
head_gone from y rest n past =
    ap (λ r. value_for nat_cmp (cond {A = RowChanges} (is_eq r) rest ((from, y) ∷ without_key nat_cmp rest from)) n) (sym (nat_cmp_is from from Equal refl))
    ∙ elim (is_eq (nat_cmp n from)) as (λ t. is_eq (nat_cmp n from) ≡ t → value_for nat_cmp rest n ≡ cond t None (cond t (Some y) (value_for nat_cmp rest n))) [
      | true ↦ λ is. let same : n ≡ from = same_key nat_cmp nat_cmp_total nat_cmp-IsAntisymmetric n from is in ap (value_for nat_cmp rest) same ∙ not_past rest from past
      | false ↦ λ _. refl
    ] refl

head_there : (from : ℕ) (y : Option Value) (rest : RowChanges) → IsSome (value_for nat_cmp ((from, y) ∷ rest) from)
head_there from y rest = subst (λ r. IsSome (cond (is_eq r) (Some y) (value_for nat_cmp rest from))) (nat_cmp_is from from Equal refl) refl

pub tail_last : (v w : ℕ × Option Value) (vs : RowChanges) → last_number (v ∷ w ∷ vs) ≡ last_number (w ∷ vs)
tail_last v w vs = let next : length (v ∷ w ∷ vs) - 1 ≡ suc (length (w ∷ vs) - 1) = omega arith in ap (λ n. option_map (λ (x : ℕ × Option Value). x.0) (slice_get (v ∷ w ∷ vs) n)) next

each_last_number : (f : ℕ) (vs : RowChanges) → Each (λ v. f < v.0) vs → IfSome (last_number vs) (λ last. f < last)
each_last_number f [] all = tt
each_last_number f (v ∷ []) all = all.0
each_last_number f (v ∷ w ∷ vs) all = subst (λ o. IfSome o (λ last. f < last)) (sym (tail_last v w vs)) (each_last_number f (w ∷ vs) all.1)

last_past : (f : ℕ) (y : Option Value) (ws : RowChanges) → Each (λ v. f < v.0) ws → 1 ≤ length ws → IfSome (last_number ((f, y) ∷ ws)) (λ last. f < last)
last_past f y [] past some = absurd (omega (arith, some))
last_past f y (w ∷ ws) past some = subst (λ o. IfSome o (λ last. f < last)) (sym (tail_last (f, y) w ws)) (each_last_number f (w ∷ ws) past)

-- ---- what versions hold, beside what is kept of them
abbrev pub HoldVersions : Holdings → VersionTable → Type 0
HoldVersions m t = (row : List ℕ) (n : ℕ) → held_by m (holder.Version row n) ≡ births_of_version (versions_of t.rows row) n

-- whether two versions are one
pub version_is : (row : List ℕ) (n : ℕ) (name : List ℕ) (from : ℕ) → is_holder (holder.Version row n) (holder.Version name from) ≡ (is_same_name row name && eq_by_cmp nat_cmp n from)
version_is row n name from = both (nat_cmp n from) (name_cmp row name)
  where
    never : (q : Ordering) → false ≡ (is_eq q && false)
    never Less = refl
    never Equal = refl
    never Greater = refl

    both : (r q : Ordering) → is_eq (ordering_then r q) ≡ (is_eq q && is_eq r)
    both Less q = never q
    both Equal Less = refl
    both Equal Equal = refl
    both Equal Greater = refl
    both Greater q = never q

none_of_version : (t : Bool) (vs : RowChanges) (n from : ℕ) → value_for nat_cmp (without_key nat_cmp vs from) n ≡ cond (eq_by_cmp nat_cmp n from) None (value_for nat_cmp vs n)
    → cond (t && eq_by_cmp nat_cmp n from) [] (births_of_version vs n) ≡ births_of_version (cond {A = RowChanges} t (without_key nat_cmp vs from) vs) n
none_of_version false vs n from gone = refl
none_of_version true vs n from gone =
    either (eq_by_cmp nat_cmp n from) ∙ ap (λ o. option_map_or births_in (value_or_absent o) []) (sym gone)
  where
    either : (u : Bool) → cond u [] (births_of_version vs n) ≡ option_map_or births_in (value_or_absent (cond u None (value_for nat_cmp vs n))) []
    either true = refl
    either false = refl

pub versions_with : (rows : NameMap RowChanges) (name : List ℕ) (vs : RowChanges) (row : List ℕ) → versions_of (with_entry rows name vs) row ≡ cond (is_same_name row name) vs (versions_of rows row)
versions_with rows name vs row =
    ap (λ o. unwrap_or o []) (get-put rows name vs row) ∙ either (is_same_name row name)
  where
    either : (t : Bool) → unwrap_or (cond {A = Option RowChanges} t (Some vs) (get rows row)) [] ≡ cond t vs (versions_of rows row)
    either true = refl
    either false = refl

-- a version that is given up holds nothing, and is gone
pub held_without : (m : Holdings) (t : VersionTable) (name : List ℕ) (from : ℕ) → HoldVersions m t
    → ((n : ℕ) → value_for nat_cmp (without_key nat_cmp (versions_of t.rows name) from) n ≡ cond (eq_by_cmp nat_cmp n from) None (value_for nat_cmp (versions_of t.rows name) n))
    → HoldVersions (with_births m (holder.Version name from) []) (without_version t name from)
held_without m t name from held gone row n =
    held_after m (holder.Version name from) [] (holder.Version row n)
    ∙ ap (λ t. cond {A = List ℕ} t [] (held_by m (holder.Version row n))) (version_is row n name from)
    ∙ ap (cond {A = List ℕ} (is_same_name row name && eq_by_cmp nat_cmp n from) []) (held row n)
    ∙ at_row (is_same_name row name) refl
    ∙ ap (λ vs. births_of_version vs n) (sym (versions_with t.rows name (without_key nat_cmp (versions_of t.rows name) from) row))
  where
    at_row : (u : Bool) → is_same_name row name ≡ u → cond {A = List ℕ} (is_same_name row name && eq_by_cmp nat_cmp n from) [] (births_of_version (versions_of t.rows row) n)
        ≡ births_of_version (cond {A = RowChanges} (is_same_name row name) (without_key nat_cmp (versions_of t.rows name) from) (versions_of t.rows row)) n
    at_row true is =
        let same : row ≡ name = same_name row name is in
        ap (λ r. cond {A = List ℕ} (is_same_name row name && eq_by_cmp nat_cmp n from) [] (births_of_version (versions_of t.rows r) n)) same
        ∙ none_of_version (is_same_name row name) (versions_of t.rows name) n from (gone n)
        ∙ ap (λ r. births_of_version (cond {A = RowChanges} (is_same_name row name) (without_key nat_cmp (versions_of t.rows name) from) (versions_of t.rows r)) n) (sym same)
    at_row false is =
        ap (λ u. cond {A = List ℕ} (u && eq_by_cmp nat_cmp n from) [] (births_of_version (versions_of t.rows row) n)) is
        ∙ ap (λ u. births_of_version (cond {A = RowChanges} u (without_key nat_cmp (versions_of t.rows name) from) (versions_of t.rows row)) n) (sym is)

-- ---- one commit: the versions that it displaced, row by row
module _ (commits : List Rows) (k : ℕ) (c : Rows) (after : List Rows) (within : k < length commits) (at : drop k commits ≡ c ∷ after) where
  abbrev pub note_at : List ℕ × Option Value → Option Note
  note_at e = option_map (λ from. note_of e.0 from (k + 1)) (displaced commits k e.0)

  abbrev pub pairs_of : Rows → List Pair
  pairs_of es = map pair_of (filter_map note_at es)

  -- the rows whose version is not given up yet have their versions at the floor, the others those at the next
  abbrev pub AreLeft : Rows → VersionTable → Type 0
  AreLeft es t = (row : List ℕ) → versions_of t.rows row ≡ cond {A = RowChanges} (has es row) (kept_at_number commits k row) (kept_at_number commits (k + 1) row)

  named : (e : List ℕ × Option Value) (x : Option Value) → get c e.0 ≡ Some x → kept_at_number commits (k + 1) e.0 ≡ option_map_or (λ from. without_key nat_cmp (kept_at_number commits k e.0) from) (displaced commits k e.0) (kept_at_number commits k e.0)
  named e x is =
      kept_next commits k c after e.0 within at
      ∙ ap (λ (o : Option (Option Value)). option_map_or (λ _. option_map_or (λ from. without_key nat_cmp (kept_at_number commits k e.0) from) (displaced commits k e.0) (kept_at_number commits k e.0)) o (kept_at_number commits k e.0)) is

  -- a row that is done
  left_behind : (e : List ℕ × Option Value) (es : Rows) (t : VersionTable) → has es e.0 ≡ false → AreLeft (e ∷ es) t → kept_at_number commits k e.0 ≡ kept_at_number commits (k + 1) e.0 → AreLeft es t
  left_behind e es t new left same row =
      left row ∙ elim (is_same_name row e.0) as (λ u. is_same_name row e.0 ≡ u → cond {A = RowChanges} (is_some (cond {A = Option (Option Value)} u (Some e.1) (get es row))) (kept_at_number commits k row) (kept_at_number commits (k + 1) row) ≡ cond {A = RowChanges} (has es row) (kept_at_number commits k row) (kept_at_number commits (k + 1) row)) [
        | true ↦ λ is.
            let own : row ≡ e.0 = same_name row e.0 is in
            ap (kept_at_number commits k) own ∙ same ∙ ap (kept_at_number commits (k + 1)) (sym own)
            ∙ ap (λ u. cond {A = RowChanges} u (kept_at_number commits k row) (kept_at_number commits (k + 1) row)) (sym (ap (has es) own ∙ new))
        | false ↦ λ _. refl
      ] refl

  left_without : (e : List ℕ × Option Value) (es : Rows) (t : VersionTable) (from : ℕ) → has es e.0 ≡ false → AreLeft (e ∷ es) t → kept_at_number commits (k + 1) e.0 ≡ without_key nat_cmp (kept_at_number commits k e.0) from → versions_of t.rows e.0 ≡ kept_at_number commits k e.0
      → AreLeft es (without_version t e.0 from)
  left_without e es t from new left next own row =
      versions_with t.rows e.0 (without_key nat_cmp (versions_of t.rows e.0) from) row
      ∙ elim (is_same_name row e.0) as (λ u. is_same_name row e.0 ≡ u → cond {A = RowChanges} u (without_key nat_cmp (versions_of t.rows e.0) from) (versions_of t.rows row) ≡ cond {A = RowChanges} (has es row) (kept_at_number commits k row) (kept_at_number commits (k + 1) row)) [
        | true ↦ λ is.
            let same : row ≡ e.0 = same_name row e.0 is in
            ap (λ vs. without_key nat_cmp vs from) own ∙ sym next ∙ ap (kept_at_number commits (k + 1)) (sym same)
            ∙ ap (λ u. cond {A = RowChanges} u (kept_at_number commits k row) (kept_at_number commits (k + 1) row)) (sym (ap (has es) same ∙ new))
        | false ↦ λ is. left row ∙ ap (λ u. cond {A = RowChanges} (is_some (cond {A = Option (Option Value)} u (Some e.1) (get es row))) (kept_at_number commits k row) (kept_at_number commits (k + 1) row)) is
      ] refl

  -- what giving up versions comes to
  pub record Gives (ps : List Pair) (t : VersionTable) (m : Holdings) : Type 0 where
    pub left : (row : List ℕ) → versions_of (versions_without t ps).rows row ≡ kept_at_number commits (k + 1) row
    pub held : HoldVersions (holdings_without m ps) (versions_without t ps)
    pub displaced_each : AreDisplaced t ps

  -- the numbers of the versions past the first commits
  past_from : (row : List ℕ) (from : ℕ) → from ≤ k → Each (λ v. from < v.0) (changes_of k (drop k commits) row)
  past_from row from low = each_of (λ v. k < v.0) (λ v. from < v.0) (changes_of k (drop k commits) row) (λ v past. omega (arith, low, past)) (past_before k (drop k commits) row)

  -- the version that a commit displaces is there, and the commit's is later
  is_displaced : (e : List ℕ × Option Value) (x : Option Value) (t : VersionTable) (from : ℕ) → get c e.0 ≡ Some x → displaced commits k e.0 ≡ Some from → versions_of t.rows e.0 ≡ kept_at_number commits k e.0 → IsDisplaced t.rows e.0 from
  is_displaced e x t from is was own =
      let form = shape commits k e.0 from (omega (arith, within)) was in
      let vs : RowChanges = (from, form.0) ∷ changes_of k (drop k commits) e.0 in
      let all : versions_of t.rows e.0 ≡ vs = own ∙ form.1 in
      let more : changes_of k (drop k commits) e.0 ≡ (k + 1, x) ∷ changes_of (k + 1) after e.0 =
      ap (λ cs. changes_of k cs e.0) at ∙ ap (λ (o : Option (Option Value)). option_map_or (λ change. (k + 1, change) ∷ changes_of (k + 1) after e.0) o (changes_of (k + 1) after e.0)) is in
      record {
        made = subst (λ (ws : RowChanges). IsSome (value_for nat_cmp ws from)) (sym all) (head_there from form.0 (changes_of k (drop k commits) e.0));
        later = subst (λ (ws : RowChanges). IfSome (last_number ws) (λ last. from < last)) (sym all) (last_past from form.0 (changes_of k (drop k commits) e.0) (past_from e.0 from form.2) (subst (λ (ws : RowChanges). 1 ≤ length ws) (sym more) (omega arith)));
      }

  module _ (e : List ℕ × Option Value) (es : Rows) (t : VersionTable) (m : Holdings) (new : has es e.0 ≡ false) (is : get c e.0 ≡ Some e.1) (left : AreLeft (e ∷ es) t) (held : HoldVersions m t) where
    own : versions_of t.rows e.0 ≡ kept_at_number commits k e.0
    own = left e.0 ∙ ap (λ u. cond {A = RowChanges} (is_some (cond {A = Option (Option Value)} u (Some e.1) (get es e.0))) (kept_at_number commits k e.0) (kept_at_number commits (k + 1) e.0)) (own_name e.0)

    gone : (from : ℕ) → displaced commits k e.0 ≡ Some from → (n : ℕ)
        → value_for nat_cmp (without_key nat_cmp (versions_of t.rows e.0) from) n ≡ cond (eq_by_cmp nat_cmp n from) None (value_for nat_cmp (versions_of t.rows e.0) n)
    gone from was n =
        let form = shape commits k e.0 from (omega (arith, within)) was in
        let vs : RowChanges = (from, form.0) ∷ changes_of k (drop k commits) e.0 in
        subst (λ (ws : RowChanges). value_for nat_cmp (without_key nat_cmp ws from) n ≡ cond (eq_by_cmp nat_cmp n from) None (value_for nat_cmp ws n)) (sym (own ∙ form.1))
        (head_gone from form.0 (changes_of k (drop k commits) e.0) n (past_from e.0 from form.2))

    give_one : ((u : VersionTable) (l : Holdings) → AreLeft es u → HoldVersions l u → Gives (pairs_of es) u l) → (o : Option ℕ) → displaced commits k e.0 ≡ o
        → Gives (map pair_of (cons_option (option_map (λ from. note_of e.0 from (k + 1)) o) (filter_map note_at es))) t m
    give_one rest None was =
        rest t m (left_behind e es t new left (sym (named e e.1 is ∙ ap (λ (o : Option ℕ). option_map_or (λ from. without_key nat_cmp (kept_at_number commits k e.0) from) o (kept_at_number commits k e.0)) was))) held
    give_one rest (Some from) was =
        let next : kept_at_number commits (k + 1) e.0 ≡ without_key nat_cmp (kept_at_number commits k e.0) from =
        named e e.1 is ∙ ap (λ (o : Option ℕ). option_map_or (λ f. without_key nat_cmp (kept_at_number commits k e.0) f) o (kept_at_number commits k e.0)) was in
        let later = rest (without_version t e.0 from) (with_births m (holder.Version e.0 from) []) (left_without e es t from new left next own) (held_without m t e.0 from held (gone from was)) in
        record { left = later.left; held = later.held; displaced_each = (is_displaced e e.1 t from is was own, later.displaced_each) }

  -- the versions that the rest of a commit displaced are given up one after the other
  pub give_each : (es : Rows) → IsRisingMap es → Each (λ e. get c e.0 ≡ Some e.1) es → (t : VersionTable) (m : Holdings) → AreLeft es t → HoldVersions m t → Gives (pairs_of es) t m
  give_each [] rising are t m left held = record { left = left; held = held; displaced_each = tt }
  give_each (e ∷ es) rising are t m left held =
      let head = rising_head e es rising in
      give_one e es t m (ap is_some head.0) are.0 left held (λ u l. give_each es head.1 are.1 u l) (displaced commits k e.0) refl
