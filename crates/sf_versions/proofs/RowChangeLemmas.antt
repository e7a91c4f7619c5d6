-- The versions of a row, looked up and added to, and what they are of a table's commits.
use Rattle.std.proofs.Common.{◌≡◌, ℕ, zero, suc, ◌+◌, ◌<◌, ◌≤◌, Bool, true, false, cond, not, List, [], ◌∷◌, ◌++◌, take, Option, Some, None, refl, sym, ap, ◌∙◌, arith}
use Rattle.std.specs.Prelude.{All, nat_le, if◌then◌else◌}
use Rattle.std.specs.Option.{option_map, option_map_or}
use Rattle.std.specs.Cmp.{nat_cmp_is}
use Rattle.std.specs.declared.cmp.Ordering.TheVariants.{Greater}
use Rattle.std.specs.Ordering.{nat_cmp, is_eq, is_lt, match_ordering}
use Rattle.std.proofs.lemmas.Bool.Decides.{nat_tests}
use Rattle.sf_types.specs.Inside.NameMaps.{get}
use Rattle.sf_types.specs.Values.Marks.{Value}
use Rattle.sf_types.specs.Table.Parts.{Rows}
use Rattle.sf_types.specs.Table.Versions.{later_change, last_change}
use Rattle.sf_types.proofs.VersionLemmas.{none_before}
use Rattle.sf_room_map.specs.Entries.{value_for, with_value}
use Rattle.sf_sorted_map.specs.UpTo.{later_entry, entry_up_to}
use Rattle.sf_versions.specs.RowChanges.{RowChanges, change_up_to, changes_of}

later_is : (b : Bool) (v : ℕ × Option Value) (o : Option (ℕ × Option Value)) → later_change (if not b then Some v.1 else None) (option_map (λ w. w.1) o) ≡ option_map (λ w. w.1) (later_entry (if b then None else Some v) o)
later_is true v None = refl
later_is true v (Some w) = refl
later_is false v None = refl
later_is false v (Some w) = refl

at_most_is : (m n : ℕ) → nat_le m n ≡ not (is_lt (nat_cmp n m))
at_most_is m n = grind (arith, nat_tests)

-- the change up to a commit is that of the last entry up to its number
pub change_is : (vs : RowChanges) (n : ℕ) → change_up_to vs n ≡ option_map (λ v. v.1) (entry_up_to nat_cmp vs n)
change_is [] n = refl
change_is (v ∷ vs) n =
    ap (λ b. later_change (if b then Some v.1 else None) (change_up_to vs n)) (at_most_is v.0 n)
    ∙ ap (later_change (if not (is_lt (nat_cmp n v.0)) then Some v.1 else None)) (change_is vs n)
    ∙ later_is (is_lt (nat_cmp n v.0)) v (entry_up_to nat_cmp vs n)

later : (v : ℕ × Option Value) (vs : RowChanges) (n : ℕ) → All (λ w. w.0 < n) (v ∷ vs) → nat_cmp n v.0 ≡ Greater
later v vs n all = sym (nat_cmp_is n v.0 Greater (all 0 v (omega arith)))

pub rest : (v : ℕ × Option Value) (vs : RowChanges) (n : ℕ) → All (λ (w : ℕ × Option Value). w.0 < n) (v ∷ vs) → All (λ (w : ℕ × Option Value). w.0 < n) vs
rest v vs n all k d below = all (suc k) d (omega (arith, below))

-- a version with a greater number stands last
pub added_last : (vs : RowChanges) (n : ℕ) (x : Option Value) → All (λ w. w.0 < n) vs → with_value nat_cmp vs n x ≡ vs ++ (n, x) ∷ []
added_last [] n x all = refl
added_last (v ∷ vs) n x all =
    ap (λ r. match_ordering r ((n, x) ∷ v ∷ vs) ((v.0, x) ∷ vs) (v ∷ with_value nat_cmp vs n x)) (later v vs n all)
    ∙ ap (λ (ws : RowChanges). v ∷ ws) (added_last vs n x (rest v vs n all))

pub not_there : (vs : RowChanges) (n : ℕ) → All (λ w. w.0 < n) vs → value_for nat_cmp vs n ≡ None
not_there [] n all = refl
not_there (v ∷ vs) n all =
    ap (λ r. cond (is_eq r) (Some v.1) (value_for nat_cmp vs n)) (later v vs n all) ∙ not_there vs n (rest v vs n all)

too_late : (before n : ℕ) → n ≤ before → nat_le (before + 1) n ≡ false
too_late before n early = grind (arith, nat_tests, early)

in_time : (before n : ℕ) → nat_le (before + 1) (before + suc n) ≡ true
in_time before n = grind (arith, nat_tests)

-- the versions that later commits make count for none of the first ones
none_before_them : (before : ℕ) (cs : List Rows) (name : List ℕ) (n : ℕ) → n ≤ before → change_up_to (changes_of before cs name) n ≡ None
none_before_them before [] name n early = refl
none_before_them before (c ∷ cs) name n early =
    elim (get c name) as (λ found. change_up_to (option_map_or (λ change. (before + 1, change) ∷ changes_of (before + 1) cs name) found (changes_of (before + 1) cs name)) n ≡ None) [
      | None ↦ none_before_them (before + 1) cs name n (omega (arith, early))
      | Some x ↦
          ap (λ b. later_change (if b then Some x else None) (change_up_to (changes_of (before + 1) cs name) n)) (too_late before n early)
          ∙ ap (later_change None) (none_before_them (before + 1) cs name n (omega (arith, early)))
    ]

next_number : (before n : ℕ) → before + suc n ≡ before + 1 + n
next_number before n = omega arith

changes_after : (before : ℕ) (cs : List Rows) (name : List ℕ) (n : ℕ) → change_up_to (changes_of before cs name) (before + n) ≡ last_change (take n cs) name
changes_after before [] name zero = refl
changes_after before [] name (suc n) = refl
changes_after before (c ∷ cs) name zero = none_before_them before (c ∷ cs) name (before + zero) (omega arith)
changes_after before (c ∷ cs) name (suc n) =
    let tail = ap (change_up_to (changes_of (before + 1) cs name)) (next_number before n) ∙ changes_after (before + 1) cs name n in
    elim (get c name) as (λ found. change_up_to (option_map_or (λ change. (before + 1, change) ∷ changes_of (before + 1) cs name) found (changes_of (before + 1) cs name)) (before + suc n) ≡ later_change found (last_change (take n cs) name)) [
      | None ↦ tail ∙ sym (none_before (last_change (take n cs) name))
      | Some x ↦
          ap (λ b. later_change (if b then Some x else None) (change_up_to (changes_of (before + 1) cs name) (before + suc n))) (in_time before n)
          ∙ ap (later_change (Some x)) tail
    ]

-- the versions that commits make of a row say what the commits do
pub changes_are : (cs : List Rows) (name : List ℕ) (n : ℕ) → change_up_to (changes_of 0 cs name) n ≡ last_change (take n cs) name
changes_are cs name n = ap (change_up_to (changes_of 0 cs name)) (omega arith) ∙ changes_after 0 cs name n
