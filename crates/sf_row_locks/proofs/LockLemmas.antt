-- Locks that are asked for and released.
use Rattle.std.proofs.Common.{◌≡◌, ℕ, suc, ◌<◌, length, true, false, cond, not, List, [], ◌∷◌, Option, Some, None, refl, sym, ap, ◌∙◌, arith}
use Rattle.std.specs.Prelude.{◌==◌}
use Rattle.std.specs.Option.{option_map, option_map_or}
use Rattle.std.specs.Cmp.Lexicographic.{nat_list_cmp_total}
use Rattle.sf_types.specs.Values.Names.{name_cmp}
use Rattle.sf_types.specs.Inside.NameMaps.{NameMap, get, is_same_name, without_entry, with_entry}
use Rattle.sf_types.specs.Table.Sessions.{holds_lock, is_busy, without_locks}
use Rattle.sf_types.proofs.NumberLemmas.{same_number, own_number}
use Rattle.sf_room_map.proofs.EntryLemmas as entry
use Rattle.sf_row_locks.specs.declared.slot.Slot.{Slot}
use Rattle.sf_row_locks.specs.Locks.{locks_asked, locks_released}
use Rattle.sf_row_locks.specs.Inside.Slots.{SlotRows, Counts, slot_of, row_count, locks_in, AreSlotted}
use Rattle.sf_row_locks.proofs.SlotLemmas.{names_exact, session_in}

-- what is left of a session's locks after one of them was released goes with the others
pub released_rest : (m : NameMap ℕ) (s : ℕ) (row : List ℕ) → holds_lock m s row ≡ true → without_locks (without_entry m row) s ≡ without_locks m s
released_rest [] s row held = refl
released_rest (e ∷ m) s row held =
    elim (is_same_name row e.0) as (λ b. option_map_or (λ holder. holder == s) (cond b (Some e.1) (get m row)) false ≡ true → without_locks (cond b m (e ∷ without_entry m row)) s ≡ without_locks (e ∷ m) s) [
      | true ↦ λ own. sym (ap (λ t. cond (not t) (e ∷ without_locks m s) (without_locks m s)) own)
      | false ↦ λ rest. ap (λ (xs : NameMap ℕ). cond (not (e.1 == s)) (e ∷ xs) xs) (released_rest m s row rest)
    ] held

pub fewer_locks : (m : NameMap ℕ) (s : ℕ) (row : List ℕ) → holds_lock m s row ≡ true → length (without_entry m row) < length m
fewer_locks [] s row held = absurd cc
fewer_locks (e ∷ m) s row held =
    elim (is_same_name row e.0) as (λ b. option_map_or (λ holder. holder == s) (cond b (Some e.1) (get m row)) false ≡ true → length (cond b m (e ∷ without_entry m row)) < suc (length m)) [
      | true ↦ λ _. omega arith
      | false ↦ λ rest. let fewer = fewer_locks m s row rest in omega (arith, fewer)
    ] held

pub lock_is_held : (m : NameMap ℕ) (s : ℕ) (row : List ℕ) → get m row ≡ Some s → holds_lock m s row ≡ true
lock_is_held m s row is = ap (λ x. option_map_or (λ holder. holder == s) x false) is ∙ own_number s

-- a session without rows holds no lock
pub none_held : (locks : NameMap Slot) (rows : SlotRows) (counts : Counts) (s : ℕ) → AreSlotted locks rows counts → row_count counts s ≡ 0 → without_locks (locks_in locks) s ≡ locks_in locks
none_held locks rows counts s slotted none =
    entry.all_pass name_cmp nat_list_cmp_total names_exact (λ holder. not (holder == s)) (locks_in locks) (entry.sorted-values name_cmp (λ (x : Slot). x.session) locks slotted.rising) (λ row holder is.
    elim (slot_of locks row) as (λ r. slot_of locks row ≡ r → option_map (λ (x : Slot). x.session) r ≡ Some holder → not (holder == s) ≡ true) [
      | None ↦ λ _ bad. absurd cc
      | Some slot ↦ λ found own.
          let less = slotted.below slot row (slotted.stands row slot found) in
          let session : slot.session ≡ holder = some slot.session holder own in
          elim (holder == s) as (λ t. (holder == s) ≡ t → not t ≡ true) [
            | true ↦ λ same. absurd (let zero_rows : row_count counts slot.session ≡ 0 = ap (row_count counts) (session ∙ same_number holder s same) ∙ none in omega (arith, less, zero_rows))
            | false ↦ λ _. refl
          ] refl
    ] refl (sym (session_in locks row) ∙ is))
  where
    some : (a b : ℕ) → ◌≡◌ {A = Option ℕ} (Some a) (Some b) → a ≡ b
    some a b is = cc

-- a row that nobody has locked is locked, and one that somebody has locked stays as it is
pub asked_free : (m : NameMap ℕ) (s : ℕ) (row : List ℕ) → get m row ≡ None → locks_asked m s row ≡ with_entry m row s
asked_free m s row none =
    let free : is_busy m s row ≡ false = ap (λ x. option_map_or (λ holder. not (holder == s)) x false) none in
    let not_held : holds_lock m s row ≡ false = ap (λ x. option_map_or (λ holder. holder == s) x false) none in
    ap (λ b. cond b m (cond (holds_lock m s row) m (with_entry m row s))) free
    ∙ ap (λ b. cond b m (with_entry m row s)) not_held

pub asked_held : (m : NameMap ℕ) (s : ℕ) (row : List ℕ) (holder : ℕ) → get m row ≡ Some holder → locks_asked m s row ≡ m
asked_held m s row holder is =
    ap (λ b. cond b m (cond (holds_lock m s row) m (with_entry m row s))) (ap (λ x. option_map_or (λ h. not (h == s)) x false) is)
    ∙ ap (λ b. cond (not (holder == s)) m (cond b m (with_entry m row s))) (ap (λ x. option_map_or (λ h. h == s) x false) is)
    ∙ elim (holder == s) as (λ t. cond (not t) m (cond t m (with_entry m row s)) ≡ m) [ true ↦ refl | false ↦ refl ]

pub taken_is : (m : NameMap ℕ) (s : ℕ) (row : List ℕ) (holder : ℕ) → get m row ≡ Some holder → (holder == s) ≡ not (is_busy m s row)
taken_is m s row holder is =
    elim (holder == s) as (λ t. t ≡ not (not t)) [ true ↦ refl | false ↦ refl ]
    ∙ ap (λ x. not (option_map_or (λ h. not (h == s)) x false)) (sym is)

-- a lock that a session holds is released, and another one stays
pub released_own : (m : NameMap ℕ) (s : ℕ) (row : List ℕ) (holder : ℕ) → get m row ≡ Some holder → (holder == s) ≡ true → locks_released m s row ≡ without_entry m row
released_own m s row holder is own = ap (λ b. cond b (without_entry m row) m) (ap (λ x. option_map_or (λ h. h == s) x false) is ∙ own)

pub released_other : (m : NameMap ℕ) (s : ℕ) (row : List ℕ) (holder : ℕ) → get m row ≡ Some holder → (holder == s) ≡ false → locks_released m s row ≡ m
released_other m s row holder is other = ap (λ b. cond b (without_entry m row) m) (ap (λ x. option_map_or (λ h. h == s) x false) is ∙ other)

pub released_none : (m : NameMap ℕ) (s : ℕ) (row : List ℕ) → get m row ≡ None → locks_released m s row ≡ m
released_none m s row is = ap (λ x. cond (option_map_or (λ h. h == s) x false) (without_entry m row) m) is
