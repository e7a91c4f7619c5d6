-- The versions after commits, and what the rules of the table say of the same commits.
use Rattle.std.proofs.Common.{◌≡◌, ℕ, ◌+◌, ◌-◌, ◌<◌, ◌≤◌, true, false, cond, List, [], ◌∷◌, ◌++◌, length, take, Option, Some, None, ◌⊎◌, inl, inr, refl, sym, ap, subst, ◌∙◌, arith, append_assoc}
use Rattle.std.specs.Prelude.{IsSome, nat_le, slice_get, unwrap_or, if◌then◌else◌}
use Rattle.std.specs.List.{AllByRecursion}
use Rattle.std.specs.List.Sorted.{IsStrictlySortedBy}
use Rattle.std.specs.Map.{keys_of}
use Rattle.std.specs.Option.{option_map, option_map_or}
use Rattle.std.specs.Cmp.{nat_cmp_total}
use Rattle.std.specs.Ordering.{nat_cmp, is_eq}
use Rattle.std.specs.FinMap.{nat_cmp-IsAntisymmetric}
use Rattle.std.proofs.lemmas.List.{append-nil}
use Rattle.std.proofs.lemmas.Bool.Decides.{nat_tests}
use Rattle.sf_types.specs.Values.Names.{name_cmp}
use Rattle.sf_types.specs.Values.Marks.{Value}
use Rattle.sf_types.specs.Inside.NameMaps.{NameMap, get, is_same_name}
use Rattle.sf_types.specs.Table.Parts.{Rows}
use Rattle.sf_types.specs.Table.Versions.{later_change, last_change, value_or_absent}
use Rattle.sf_types.proofs.NameMapLemmas.{get-put, same_name}
use Rattle.sf_types.proofs.VersionLemmas.{none_before}
use Rattle.sf_room_map.specs.Entries.{value_for, without_key}
use Rattle.sf_room_map.proofs.EntryLemmas as entry
use Rattle.sf_sorted_map.proofs.PlaceLemmas.{value_in_gap}
use Rattle.sf_versions.specs.RowChanges.{RowChanges, change_up_to, changes_of, last_version, last_value, RiseWithin}
use Rattle.sf_versions.specs.VersionTables.{VersionTable, no_versions, versions_of, with_versions, after_commit, after_commits}
use Rattle.sf_versions.proofs.AddedLemmas.{row_stays}
use Rattle.sf_versions.proofs.RowChangeLemmas.{changes_are}
use Rattle.sf_versions.proofs.TakenLemmas.{less_rest}

-- what one commit adds to a row
pub row_after : (rows : NameMap RowChanges) (number : ℕ) (c : Rows) (name : List ℕ) → IsStrictlySortedBy name_cmp (keys_of c) → versions_of (with_versions rows number c) name ≡ versions_of rows name ++ option_map_or (λ x. (number, x) ∷ []) (get c name) []
unfolding IsStrictlySortedBy
row_after rows number [] name rising = sym (append-nil (versions_of rows name))
row_after rows number (e ∷ es) name rising =
    let others = with_versions rows number es in
    let added = versions_of others e.0 ++ (number, e.1) ∷ [] in
    ap (λ (o : Option RowChanges). unwrap_or o []) (get-put others e.0 added name)
    ∙ elim (is_same_name name e.0) as (λ b. is_same_name name e.0 ≡ b → unwrap_or (cond b (Some added) (get others name)) [] ≡ versions_of rows name ++ option_map_or (λ x. (number, x) ∷ []) (cond b (Some e.1) (get es name)) []) [
      | true ↦ λ is.
          ap (λ (vs : RowChanges). vs ++ (number, e.1) ∷ [])
          (row_stays rows number es e.0 rising.0 ∙ ap (versions_of rows) (sym (same_name name e.0 is)))
      | false ↦ λ _. row_after rows number es name rising.1
    ] refl

after_all : (t : VersionTable) (commits : List Rows) (name : List ℕ) → AllByRecursion (λ c. IsStrictlySortedBy name_cmp (keys_of c)) commits → versions_of (after_commits t commits).rows name ≡ versions_of t.rows name ++ changes_of t.now commits name
after_all t [] name all = sym (append-nil (versions_of t.rows name))
after_all t (c ∷ cs) name all =
    after_all (after_commit t c) cs name all.1
    ∙ ap (λ (vs : RowChanges). vs ++ changes_of (t.now + 1) cs name) (row_after t.rows (t.now + 1) c name all.0)
    ∙ elim (get c name) as (λ o. (versions_of t.rows name ++ option_map_or (λ x. (t.now + 1, x) ∷ []) o []) ++ changes_of (t.now + 1) cs name ≡ versions_of t.rows name ++ option_map_or (λ x. (t.now + 1, x) ∷ changes_of (t.now + 1) cs name) o (changes_of (t.now + 1) cs name)) [
      | None ↦ append_assoc (versions_of t.rows name) [] (changes_of (t.now + 1) cs name)
      | Some x ↦ append_assoc (versions_of t.rows name) ((t.now + 1, x) ∷ []) (changes_of (t.now + 1) cs name)
    ]

-- after commits a row's versions are those that the commits made
pub versions_made : (commits : List Rows) (name : List ℕ) → AllByRecursion (λ c. IsStrictlySortedBy name_cmp (keys_of c)) commits → versions_of (after_commits no_versions commits).rows name ≡ changes_of 0 commits name
versions_made commits name all = after_all no_versions commits name all

pub value_after : (commits : List Rows) (name : List ℕ) (n : ℕ) → AllByRecursion (λ c. IsStrictlySortedBy name_cmp (keys_of c)) commits → value_or_absent (change_up_to (versions_of (after_commits no_versions commits).rows name) n) ≡ value_or_absent (last_change (take n commits) name)
value_after commits name n all =
    ap (λ vs. value_or_absent (change_up_to vs n)) (versions_made commits name all) ∙ ap value_or_absent (changes_are commits name n)

-- the last version says what the versions up to the last commit do
in_time : (m n : ℕ) → m ≤ n → nat_le m n ≡ true
in_time m n less = grind (arith, nat_tests, less)

read : (v : ℕ × Option Value) (vs : RowChanges) → slice_get (v ∷ vs) (length vs) ≡ None → ⊥
read v [] bad = cc
read v (w ∷ vs) bad = read w vs bad

at_last : (v : ℕ × Option Value) (vs : RowChanges) → last_version (v ∷ vs) ≡ slice_get (v ∷ vs) (length vs)
at_last v vs = ap (slice_get (v ∷ vs)) {x = length (v ∷ vs) - 1} {y = length vs} (omega arith)

pub last_up_to : (low now : ℕ) (vs : RowChanges) → RiseWithin low now vs → change_up_to vs now ≡ option_map (λ v. v.1) (last_version vs)
last_up_to low now [] rise = refl
last_up_to low now (v ∷ []) rise = ap (λ b. later_change (if b then Some v.1 else None) None) (in_time v.0 now rise.1)
last_up_to low now (v ∷ w ∷ vs) rise =
    ap (later_change (if nat_le v.0 now then Some v.1 else None)) (last_up_to v.0 now (w ∷ vs) rise.2 ∙ ap (option_map (λ (x : ℕ × Option Value). x.1)) (at_last w vs))
    ∙ elim (slice_get (w ∷ vs) (length vs)) as (λ o. slice_get (w ∷ vs) (length vs) ≡ o → later_change (if nat_le v.0 now then Some v.1 else None) (option_map (λ (x : ℕ × Option Value). x.1) o) ≡ option_map (λ (x : ℕ × Option Value). x.1) o) [
      | None ↦ λ none. absurd (read w vs none)
      | Some x ↦ λ _. refl
    ] refl
    ∙ ap (option_map (λ (x : ℕ × Option Value). x.1)) (sym (at_last v (w ∷ vs)))

changes_rise : (before : ℕ) (cs : List Rows) (name : List ℕ) (low now : ℕ) → low ≤ before → before + length cs ≤ now → RiseWithin low now (changes_of before cs name)
changes_rise before [] name low now under within = tt
changes_rise before (c ∷ cs) name low now under within =
    elim (get c name) as (λ o. RiseWithin low now (option_map_or (λ x. (before + 1, x) ∷ changes_of (before + 1) cs name) o (changes_of (before + 1) cs name))) [
      | None ↦ changes_rise (before + 1) cs name low now (omega (arith, under)) (omega (arith, within))
      | Some x ↦ (omega (arith, under), omega (arith, within), changes_rise (before + 1) cs name (before + 1) now (omega arith) (omega (arith, within)))
    ]

take_all : (cs : List Rows) → take (length cs) cs ≡ cs
take_all [] = refl
take_all (c ∷ cs) = ap (λ (rest : List Rows). c ∷ rest) (take_all cs)

pub current_after : (commits : List Rows) (name : List ℕ) → AllByRecursion (λ c. IsStrictlySortedBy name_cmp (keys_of c)) commits → last_value (versions_of (after_commits no_versions commits).rows name) ≡ value_or_absent (last_change commits name)
current_after commits name all =
    ap last_value (versions_made commits name all)
    ∙ ap value_or_absent (sym (last_up_to 0 (length commits) (changes_of 0 commits name) (changes_rise 0 commits name 0 (length commits) (omega arith) (omega arith))))
    ∙ ap value_or_absent (changes_are commits name (length commits) ∙ ap (λ cs. last_change cs name) (take_all commits))

-- a version that a later one has displaced is missed only between the two
some_up_to : (vs : RowChanges) (m n : ℕ) → IsSome (value_for nat_cmp vs m) → m ≤ n → change_up_to vs n ≡ None → ⊥
some_up_to [] m n made within none = absurd (let bad = made in cc)
some_up_to (v ∷ vs) m n made within none =
    elim (is_eq (nat_cmp m v.0)) as (λ b. is_eq (nat_cmp m v.0) ≡ b → IsSome (cond b (Some v.1) (value_for nat_cmp vs m)) → ⊥) [
      | true ↦ λ is _. own (change_up_to vs n) (ap (λ b. later_change (if b then Some v.1 else None) (change_up_to vs n)) (sym (in_time v.0 n (omega (arith, within, entry.same_key nat_cmp nat_cmp_total nat_cmp-IsAntisymmetric m v.0 is)))) ∙ none)
      | false ↦ λ _ found. some_up_to vs m n found within (behind (if nat_le v.0 n then Some v.1 else None) (change_up_to vs n) none)
    ] refl made
  where
    own : (o : Option (Option Value)) → later_change (Some v.1) o ≡ None → ⊥
    own None bad = cc
    own (Some x) bad = cc

    behind : (a b : Option (Option Value)) → later_change a b ≡ None → b ≡ None
    behind a None is = refl
    behind a (Some x) is = absurd cc

later_counts : (a b o : Option (Option Value)) → (o ≡ None → ⊥) → later_change a o ≡ later_change b o
later_counts a b None some = absurd (some refl)
later_counts a b (Some x) some = refl

past : (m n : ℕ) → n < m → nat_le m n ≡ false
past m n more = grind (arith, nat_tests, more)

pub kept_without : (low now : ℕ) (vs : RowChanges) (v m n : ℕ) → RiseWithin low now vs → IsSome (value_for nat_cmp vs m) → v < m → (n < v) ⊎ (m ≤ n) → change_up_to (without_key nat_cmp vs v) n ≡ change_up_to vs n
kept_without low now [] v m n rise made displaced kept = refl
kept_without low now (e ∷ es) v m n rise made displaced kept =
    elim (is_eq (nat_cmp v e.0)) as (λ b. is_eq (nat_cmp v e.0) ≡ b → change_up_to (cond b es (e ∷ without_key nat_cmp es v)) n ≡ change_up_to (e ∷ es) n) [
      | true ↦ λ is. own (entry.same_key nat_cmp nat_cmp_total nat_cmp-IsAntisymmetric v e.0 is) kept
      | false ↦ λ _. ap (later_change (if nat_le e.0 n then Some e.1 else None)) (rest (λ found. kept_without e.0 now es v m n rise.2 found displaced kept))
    ] refl
  where
    -- where the later version is the first, none of the rest has the number
    rest : (IsSome (value_for nat_cmp es m) → change_up_to (without_key nat_cmp es v) n ≡ change_up_to es n) → change_up_to (without_key nat_cmp es v) n ≡ change_up_to es n
    rest others = elim (is_eq (nat_cmp m e.0)) as (λ b. is_eq (nat_cmp m e.0) ≡ b → IsSome (cond b (Some e.1) (value_for nat_cmp es m)) → change_up_to (without_key nat_cmp es v) n ≡ change_up_to es n) [
      | true ↦ λ is _. ap (λ (vs : RowChanges). change_up_to vs n) (entry.without_absent nat_cmp nat_cmp_total nat_cmp-IsAntisymmetric es v (value_in_gap nat_cmp es v 0 (less_rest e.0 now v es rise.2 (omega (arith, displaced, entry.same_key nat_cmp nat_cmp_total nat_cmp-IsAntisymmetric m e.0 is)))))
      | false ↦ λ _ found. others found
    ] refl made

    in_rest : v ≡ e.0 → IsSome (value_for nat_cmp es m)
    in_rest is = subst (λ b. IsSome (cond b (Some e.1) (value_for nat_cmp es m))) (entry.other_key nat_cmp nat_cmp_total nat_cmp-IsAntisymmetric m e.0 (λ same. absurd (omega (arith, displaced, same, is)))) made

    own : v ≡ e.0 → (n < v) ⊎ (m ≤ n) → change_up_to es n ≡ change_up_to (e ∷ es) n
    own is (inl early) = sym (ap (λ b. later_change (if b then Some e.1 else None) (change_up_to es n)) (past e.0 n (omega (arith, early, is))) ∙ none_before (change_up_to es n))
    own is (inr late) = sym (none_before (change_up_to es n)) ∙ later_counts None (if nat_le e.0 n then Some e.1 else None) (change_up_to es n) (some_up_to es m n (in_rest is) late)
