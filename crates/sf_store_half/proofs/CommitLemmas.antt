-- Versions, notes and holdings after one commit more.
use Rattle.std.proofs.Common.{◌≡◌, ℕ, ◌+◌, ◌-◌, ◌≤◌, ◌<◌, Bool, true, false, cond, ◌&&◌, List, [], ◌∷◌, ◌++◌, length, take, drop, Option, Some, None, refl, sym, ap, ◌∙◌, append_assoc, arith}
use Rattle.std.specs.List.{AllByRecursion as Each}
use Rattle.std.specs.List.Sorted.{IsStrictlySortedBy}
use Rattle.std.specs.Map.{keys_of}
use Rattle.std.specs.Option.{option_map_or}
use Rattle.std.specs.Cmp.{nat_cmp_is, nat_cmp_total}
use Rattle.std.specs.FinMap.{nat_cmp-IsAntisymmetric}
use Rattle.std.specs.declared.cmp.Ordering.TheVariants.{Less}
use Rattle.std.specs.Ordering.{eq_by_cmp, is_eq, nat_cmp}
use Rattle.std.proofs.lemmas.List.{append-nil, drop-append-le, length-drop, take-append-le}
use Rattle.sf_types.specs.declared.holder.Holder.TheVariants as holder
use Rattle.sf_types.specs.Inside.NameMaps.{get, is_same_name}
use Rattle.sf_types.specs.Values.Marks.{Value, births_in}
use Rattle.sf_types.specs.Values.Names.{name_cmp}
use Rattle.sf_types.specs.Table.Parts.{Rows}
use Rattle.sf_types.specs.Table.Versions.{value_or_absent}
use Rattle.sf_types.proofs.NameMapLemmas.{IsRisingMap, rising_from_ordered, same_name}
use Rattle.sf_room_map.specs.Entries.{value_for}
use Rattle.sf_room_map.proofs.EntryLemmas.{same_key}
use Rattle.sf_laws.proofs.RisingLockLemmas.{rising_head}
use Rattle.sf_lifetimes.specs.Ledgers.{Holdings, held_by, with_births}
use Rattle.sf_versions.specs.RowChanges.{RowChanges, changes_of}
use Rattle.sf_versions.specs.VersionTables.{VersionTable, after_commit, versions_of}
use Rattle.sf_versions.proofs.TableLemmas.{row_after}
use Rattle.sf_store_half.specs.Inside.Commits.{births_of_change, holdings_with, row_births}
use Rattle.sf_store_half.proofs.FloorLemmas.{changes_pushed, kept_at_number, last_of}
use Rattle.sf_store_half.proofs.GivenUpLemmas.{HoldVersions, version_is}
use Rattle.sf_store_half.proofs.HeldLemmas.{held_after}
use Rattle.sf_store_half.proofs.VersionHoldLemmas.{births_of_version}

-- the version that a commit makes of a row, where it names it
abbrev pub version_made : ℕ → Rows → List ℕ → RowChanges
version_made number c row = option_map_or (λ x. (number, x) ∷ []) (get c row) []

-- a row's kept versions get that of a commit behind the floor
pub kept_pushed : (commits : List Rows) (c : Rows) (k : ℕ) (row : List ℕ) → k ≤ length commits → kept_at_number (commits ++ c ∷ []) k row ≡ kept_at_number commits k row ++ version_made (length commits + 1) c row
kept_pushed commits c k row within =
    let front = last_of (changes_of 0 (take k commits) row) in
    let size : length (drop k commits) ≡ length commits - k = length-drop k commits in
    let number : k + length (drop k commits) ≡ length commits = omega (arith, size, within) in
    ap (λ (cs : List Rows). last_of (changes_of 0 cs row) ++ changes_of k (drop k (commits ++ c ∷ [])) row) (take-append-le k commits (c ∷ []) within)
    ∙ ap (λ (cs : List Rows). front ++ changes_of k cs row) (drop-append-le k commits (c ∷ []) within)
    ∙ ap (λ (vs : RowChanges). front ++ vs) (changes_pushed k (drop k commits) c row ∙ ap (λ n. changes_of k (drop k commits) row ++ version_made (n + 1) c row) number)
    ∙ sym (append_assoc front (changes_of k (drop k commits) row) (version_made (length commits + 1) c row))

pub rows_committed : (t : VersionTable) (commits : List Rows) (c : Rows) (k : ℕ) → t.now ≡ length commits → k ≤ length commits → IsStrictlySortedBy name_cmp (keys_of c)
    → ((row : List ℕ) → versions_of t.rows row ≡ kept_at_number commits k row) → (row : List ℕ) → versions_of (after_commit t c).rows row ≡ kept_at_number (commits ++ c ∷ []) k row
rows_committed t commits c k now within rising rows row =
    row_after t.rows (t.now + 1) c row rising
    ∙ ap (λ n. versions_of t.rows row ++ version_made (n + 1) c row) now
    ∙ ap (λ (vs : RowChanges). vs ++ version_made (length commits + 1) c row) (rows row)
    ∙ sym (kept_pushed commits c k row within)

-- ---- what versions hold
value_pushed : (vs : RowChanges) (number : ℕ) (x : Option Value) (n : ℕ) → Each (λ v. v.0 < number) vs
    → value_for nat_cmp (vs ++ (number, x) ∷ []) n ≡ cond (eq_by_cmp nat_cmp n number) (Some x) (value_for nat_cmp vs n)
value_pushed [] number x n below = refl
value_pushed (v ∷ vs) number x n below =
    let rest = value_pushed vs number x n below.1 in
    elim (eq_by_cmp nat_cmp n v.0) as (λ t. eq_by_cmp nat_cmp n v.0 ≡ t → cond t (Some v.1) (value_for nat_cmp (vs ++ (number, x) ∷ []) n) ≡ cond (eq_by_cmp nat_cmp n number) (Some x) (cond t (Some v.1) (value_for nat_cmp vs n))) [
      | true ↦ λ is. ap (λ u. cond {A = Option (Option Value)} u (Some x) (Some v.1)) (sym (apart v.0 below.0 is))
      | false ↦ λ _. rest
    ] refl
  where
    apart : (k : ℕ) → k < number → eq_by_cmp nat_cmp n k ≡ true → eq_by_cmp nat_cmp n number ≡ false
    apart k less is =
        let same : n ≡ k = same_key nat_cmp nat_cmp_total nat_cmp-IsAntisymmetric n k is in
        ap is_eq (sym (nat_cmp_is n number Less (omega (arith, same, less))))

births_pushed : (vs : RowChanges) (number : ℕ) (found : Option (Option Value)) (n : ℕ) → Each (λ v. v.0 < number) vs
    → option_map_or (λ x. cond (eq_by_cmp nat_cmp n number) (option_map_or births_in x []) (births_of_version vs n)) found (births_of_version vs n)
    ≡ births_of_version (vs ++ option_map_or (λ x. (number, x) ∷ []) found []) n
births_pushed vs number None n below = ap (λ (ws : RowChanges). births_of_version ws n) (sym (append-nil vs))
births_pushed vs number (Some x) n below =
    either (eq_by_cmp nat_cmp n number) ∙ ap (λ (o : Option (Option Value)). option_map_or births_in (value_or_absent o) []) (sym (value_pushed vs number x n below))
  where
    either : (t : Bool) → cond t (option_map_or births_in x []) (births_of_version vs n) ≡ option_map_or births_in (value_or_absent (cond t (Some x) (value_for nat_cmp vs n))) []
    either true = refl
    either false = refl

-- each version that a commit makes holds the births of its value, and every other one what it held
hold_each : (m : Holdings) (number : ℕ) (es : Rows) → IsRisingMap es → (row : List ℕ) (n : ℕ)
    → held_by (holdings_with m number (row_births es)) (holder.Version row n)
    ≡ option_map_or (λ x. cond (eq_by_cmp nat_cmp n number) (option_map_or births_in x []) (held_by m (holder.Version row n))) (get es row) (held_by m (holder.Version row n))
hold_each m number [] rising row n = refl
hold_each m number (e ∷ es) rising row n =
    let head = rising_head e es rising in
    let births = (births_of_change e).births in
    let own = holder.Version row n in
    let one : held_by (with_births m (holder.Version e.0 number) births) own ≡ cond (is_same_name row e.0 && eq_by_cmp nat_cmp n number) births (held_by m own) =
    held_after m (holder.Version e.0 number) births own ∙ ap (λ t. cond {A = List ℕ} t births (held_by m own)) (version_is row n e.0 number) in
    hold_each (with_births m (holder.Version e.0 number) births) number es head.1 row n
    ∙ ap (λ (bs : List ℕ). option_map_or (λ x. cond (eq_by_cmp nat_cmp n number) (option_map_or births_in x []) bs) (get es row) bs) one
    ∙ elim (is_same_name row e.0) as (λ t. is_same_name row e.0 ≡ t
    → option_map_or (λ x. cond (eq_by_cmp nat_cmp n number) (option_map_or births_in x []) (cond (t && eq_by_cmp nat_cmp n number) births (held_by m own))) (get es row) (cond (t && eq_by_cmp nat_cmp n number) births (held_by m own))
    ≡ option_map_or (λ x. cond (eq_by_cmp nat_cmp n number) (option_map_or births_in x []) (held_by m own)) (cond {A = Option (Option Value)} t (Some e.1) (get es row)) (held_by m own)) [
      | true ↦ λ is.
          let none : get es row ≡ None = ap (get es) (same_name row e.0 is) ∙ head.0 in
          ap (λ (o : Option (Option Value)). option_map_or (λ x. cond (eq_by_cmp nat_cmp n number) (option_map_or births_in x []) (cond (eq_by_cmp nat_cmp n number) births (held_by m own))) o (cond (eq_by_cmp nat_cmp n number) births (held_by m own))) none
      | false ↦ λ _. refl
    ] refl

pub hold_committed : (t : VersionTable) (m : Holdings) (c : Rows) → IsStrictlySortedBy name_cmp (keys_of c) → ((row : List ℕ) → Each (λ v. v.0 < t.now + 1) (versions_of t.rows row)) → HoldVersions m t
    → HoldVersions (holdings_with m (t.now + 1) (row_births c)) (after_commit t c)
hold_committed t m c rising below held row n =
    hold_each m (t.now + 1) c (rising_from_ordered c rising) row n
    ∙ ap (λ (bs : List ℕ). option_map_or (λ x. cond (eq_by_cmp nat_cmp n (t.now + 1)) (option_map_or births_in x []) bs) (get c row) bs) (held row n)
    ∙ births_pushed (versions_of t.rows row) (t.now + 1) (get c row) n (below row)
    ∙ ap (λ (vs : RowChanges). births_of_version vs n) (sym (row_after t.rows (t.now + 1) c row rising))
