-- How many locators there are after a change.
use Rattle.std.proofs.Common.{◌≡◌, ℕ, ◌+◌, ◌≤◌, Bool, true, false, cond, not, List, [], ◌∷◌, length, Option, Some, None, Result, Ok, Err, refl, sym, ap, subst, ◌∙◌, arith}
use Rattle.std.specs.Prelude.{is_some, IsSome, nat_le, ◌&&◌, OnOk, OnErr}
use Rattle.std.specs.Map.{keys_of}
use Rattle.std.specs.List.Sorted.{IsStrictlySortedBy}
use Rattle.std.specs.Cmp.Lexicographic.{nat_list_cmp_total}
use Rattle.std.specs.FinMap.Entries as fin
use Rattle.sf_types.specs.declared.limits.TheConstants.{SESSION_LOCATORS}
use Rattle.sf_types.specs.Values.Names.{name_cmp}
use Rattle.sf_types.specs.Inside.NameMaps.{NameMap, get, has, is_same_name, with_entry, without_entry}
use Rattle.sf_types.specs.Table.Parts.{Locator}
use Rattle.sf_types.specs.Table.Sessions.{lacks_room}
use Rattle.sf_types.proofs.NameMapLemmas.{lookup-is, sorted_from_ordered}
use Rattle.sf_room_map.proofs.EntryLemmas.{put_is}
use Rattle.sf_locators.specs.LocatorWrites.{session_with}

-- a map has no more entries after one was taken away
pub fewer_without : {X : Type 0} (m : NameMap X) (k : List ℕ) → length (without_entry m k) ≤ length m
fewer_without [] k = omega arith
fewer_without (e ∷ m) k =
    elim (is_same_name k e.0) as (λ b. length (cond b m (e ∷ without_entry m k)) ≤ length (e ∷ m)) [ true ↦ omega arith | false ↦ omega (arith, fewer_without m k) ]

most_with : (b : Bool) (n : ℕ) → (not b && nat_le SESSION_LOCATORS n) ≡ false → n ≤ SESSION_LOCATORS → cond b n (n + 1) ≤ SESSION_LOCATORS
most_with true n room within = within
most_with false n room within = grind (arith, room)

-- a locator for which there is room leaves at most as many as there may be
pub within_with : (m : NameMap Locator) (k : List ℕ) (l : Locator) → IsStrictlySortedBy name_cmp (keys_of m) → lacks_room (session_with m) k ≡ false → length m ≤ SESSION_LOCATORS → length (with_entry m k l) ≤ SESSION_LOCATORS
within_with m k l rising room within =
    let counted : length (with_entry m k l) ≡ cond (has m k) (length m) (length m + 1) =
    ap length (put_is name_cmp m k l) ∙ fin.length-put name_cmp nat_list_cmp_total k l m (sorted_from_ordered name_cmp m rising)
    ∙ ap (λ b. cond b (length m) (length m + 1)) (ap is_some (sym (lookup-is m k))) in
    subst (λ n. n ≤ SESSION_LOCATORS) (sym counted) (most_with (has m k) (length m) room within)

-- a locator that is there is one among as many, whatever it becomes
pub within_changed : (m : NameMap Locator) (k : List ℕ) (l : Locator) → IsStrictlySortedBy name_cmp (keys_of m) → IsSome (get m k) → length m ≤ SESSION_LOCATORS → length (with_entry m k l) ≤ SESSION_LOCATORS
within_changed m k l rising there within = within_with m k l rising (room (get m k) there) within
  where
    room : (found : Option Locator) → IsSome found → (not (is_some found) && nat_le SESSION_LOCATORS (length m)) ≡ false
    room None there = let bad : false ≡ true = there in absurd cc
    room (Some x) there = refl

pub within_exchanged : (m n : NameMap Locator) (k : List ℕ) (f : Locator → Locator) → IsStrictlySortedBy name_cmp (keys_of m) → IsSome (get m k) → ((l : Locator) → get m k ≡ Some l → n ≡ with_entry m k (f l)) → length m ≤ SESSION_LOCATORS → length n ≤ SESSION_LOCATORS
within_exchanged m n k f rising there changed within =
    by_found (get m k) there (λ l is. subst (λ (e : NameMap Locator). length e ≤ SESSION_LOCATORS) (sym (changed l is)) (within_changed m k (f l) rising there within))
  where
    by_found : (found : Option Locator) → IsSome found → ((l : Locator) → found ≡ Some l → length n ≤ SESSION_LOCATORS) → length n ≤ SESSION_LOCATORS
    by_found None there goes_on = let bad : false ≡ true = there in absurd cc
    by_found (Some l) there goes_on = goes_on l refl

-- so does a call that sets it, or leaves the locators as they were
pub within_set : {R E : Type 0} (r : Result R E) (m n : NameMap Locator) (k : List ℕ) (l : Locator) → IsStrictlySortedBy name_cmp (keys_of m) → lacks_room (session_with m) k ≡ false → length m ≤ SESSION_LOCATORS → OnOk r (n ≡ with_entry m k l) → OnErr r (n ≡ m) → length n ≤ SESSION_LOCATORS
within_set (Ok x) m n k l rising room within set left = subst (λ (e : NameMap Locator). length e ≤ SESSION_LOCATORS) (sym set) (within_with m k l rising room within)
within_set (Err x) m n k l rising room within set left = subst (λ (e : NameMap Locator). length e ≤ SESSION_LOCATORS) (sym left) within
