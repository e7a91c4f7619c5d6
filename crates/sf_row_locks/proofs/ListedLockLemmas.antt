-- Locks of some rows that are released one after the other.
use Rattle.std.proofs.Common.{◌≡◌, ℕ, suc, ◌+◌, ◌<◌, drop, drop-cons, get_or, length, arith, Bool, true, false, cond, List, [], ◌∷◌, Option, Some, None, refl, sym, ap, ◌∙◌}
use Rattle.std.specs.Prelude.{◌==◌, ◌&&◌, ◌||◌, not, filter}
use Rattle.std.specs.List.{AllByRecursion as Each, list_any}
use Rattle.std.specs.Option.{option_map_or}
use Rattle.sf_types.specs.Inside.NameMaps.{NameMap, get, is_same_name, without_entry}
use Rattle.sf_types.specs.Table.Sessions.{holds_lock}
use Rattle.sf_types.specs.Halves.Asks.{without_row_locks}
use Rattle.std.proofs.lemmas.Cmp.{eq_by_cmp_equiv}
use Rattle.std.specs.Cmp.Lexicographic.{nat_list_cmp_total}
use Rattle.sf_types.proofs.NameMapLemmas.{IsRisingMap, absent_below, same_name}
use Rattle.std.specs.FinMap.Entries as fin
use Rattle.sf_types.specs.Values.Names.{name_cmp}
use Rattle.std.specs.Prelude.{T}
use Rattle.sf_types.proofs.BoolLemmas.{first, second}
use Rattle.sf_room_map.proofs.EntryLemmas.{sorted-values}
use Rattle.sf_row_locks.specs.declared.slot.Slot.{Slot}
use Rattle.sf_row_locks.specs.Inside.Slots.{locks_in}
use Rattle.sf_row_locks.specs.Locks.{locks_released}

-- whether a lock stays
abbrev stays : ℕ → List (List ℕ) → List ℕ × ℕ → Bool
stays s rows e = not (e.1 == s && list_any (is_same_name e.0) rows)

same_kept : (p q : List ℕ × ℕ → Bool) (m : NameMap ℕ) → Each (λ e. p e ≡ q e) m → filter p m ≡ filter q m
same_kept p q [] same = refl
same_kept p q (e ∷ m) same =
    ap (λ t. cond {A = NameMap ℕ} t (e ∷ filter p m) (filter p m)) same.0
    ∙ ap (λ (es : NameMap ℕ). cond {A = NameMap ℕ} (q e) (e ∷ es) es) (same_kept p q m same.1)

turned : (name row : List ℕ) → is_same_name name row ≡ is_same_name row name
turned name row = (eq_by_cmp_equiv nat_list_cmp_total).symm name row

-- where the map has nothing at a name, no entry has it
none_named : (m : NameMap ℕ) (row : List ℕ) (s : ℕ) (rest : List (List ℕ)) → get m row ≡ None → Each (λ e. stays s rest e ≡ stays s (row ∷ rest) e) m
none_named [] row s rest none = tt
none_named (e ∷ m) row s rest none =
    elim (is_same_name row e.0) as (λ t. is_same_name row e.0 ≡ t → cond {A = Option ℕ} t (Some e.1) (get m row) ≡ None → Each (λ x. stays s rest x ≡ stays s (row ∷ rest) x) (e ∷ m)) [
      | true ↦ λ _ bad. absurd cc
      | false ↦ λ is left. (ap (λ t. not (e.1 == s && (t || list_any (is_same_name e.0) rest))) (sym (turned e.0 row ∙ is)), none_named m row s rest left)
    ] refl none

rising_first : (e : List ℕ × ℕ) (m : NameMap ℕ) → IsRisingMap (e ∷ m) → (get m e.0 ≡ None) × IsRisingMap m
unfolding IsRisingMap
rising_first e m rising = (absent_below e.0 m (first (fin.below_all name_cmp e.0 m) (fin.is_sorted name_cmp m) rising), second (fin.below_all name_cmp e.0 m) (fin.is_sorted name_cmp m) rising)

-- the first lock of a map with rising names
module _ (s : ℕ) (row : List ℕ) (rest : List (List ℕ)) where
  -- an entry that has the name
  itself : (e : List ℕ × ℕ) (m : NameMap ℕ) → is_same_name row e.0 ≡ true → get m e.0 ≡ None
      → filter (stays s rest) (locks_released (e ∷ m) s row) ≡ filter (stays s (row ∷ rest)) (e ∷ m)
  itself e m is none = by_holder (e.1 == s) refl
    where
      named : is_same_name e.0 row ≡ true
      named = turned e.0 row ∙ is

      later : filter (stays s rest) m ≡ filter (stays s (row ∷ rest)) m
      later = same_kept (stays s rest) (stays s (row ∷ rest)) m (none_named m row s rest (ap (get m) (same_name row e.0 is) ∙ none))

      by_holder : (t : Bool) → (e.1 == s) ≡ t → filter (stays s rest) (locks_released (e ∷ m) s row) ≡ filter (stays s (row ∷ rest)) (e ∷ m)
      by_holder true own =
          ap (λ u. filter (stays s rest) (cond {A = NameMap ℕ} (option_map_or (λ holder. holder == s) (cond {A = Option ℕ} u (Some e.1) (get m row)) false) (cond {A = NameMap ℕ} u m (e ∷ without_entry m row)) (e ∷ m))) is
          ∙ ap (λ u. filter (stays s rest) (cond {A = NameMap ℕ} u m (e ∷ m))) own
          ∙ later
          ∙ ap (λ u. cond {A = NameMap ℕ} (not (u && (true || list_any (is_same_name e.0) rest))) (e ∷ filter (stays s (row ∷ rest)) m) (filter (stays s (row ∷ rest)) m)) (sym own)
          ∙ ap (λ u. cond {A = NameMap ℕ} (not (e.1 == s && (u || list_any (is_same_name e.0) rest))) (e ∷ filter (stays s (row ∷ rest)) m) (filter (stays s (row ∷ rest)) m)) (sym named)
      by_holder false other =
          ap (λ u. filter (stays s rest) (cond {A = NameMap ℕ} (option_map_or (λ holder. holder == s) (cond {A = Option ℕ} u (Some e.1) (get m row)) false) (cond {A = NameMap ℕ} u m (e ∷ without_entry m row)) (e ∷ m))) is
          ∙ ap (λ u. filter (stays s rest) (cond {A = NameMap ℕ} u m (e ∷ m))) other
          ∙ ap (λ u. cond {A = NameMap ℕ} (not (u && list_any (is_same_name e.0) rest)) (e ∷ filter (stays s rest) m) (filter (stays s rest) m)) other
          ∙ ap (λ (es : NameMap ℕ). e ∷ es) later
          ∙ ap (λ u. cond {A = NameMap ℕ} (not (u && list_any (is_same_name e.0) (row ∷ rest))) (e ∷ filter (stays s (row ∷ rest)) m) (filter (stays s (row ∷ rest)) m)) (sym other)

  -- an entry that has another
  beside : (e : List ℕ × ℕ) (m : NameMap ℕ) → is_same_name row e.0 ≡ false → filter (stays s rest) (locks_released m s row) ≡ filter (stays s (row ∷ rest)) m
      → filter (stays s rest) (locks_released (e ∷ m) s row) ≡ filter (stays s (row ∷ rest)) (e ∷ m)
  beside e m is later =
      ap (λ u. filter (stays s rest) (cond {A = NameMap ℕ} (option_map_or (λ holder. holder == s) (cond {A = Option ℕ} u (Some e.1) (get m row)) false) (cond {A = NameMap ℕ} u m (e ∷ without_entry m row)) (e ∷ m))) is
      ∙ kept_first (holds_lock m s row)
      ∙ ap (λ (es : NameMap ℕ). cond {A = NameMap ℕ} (stays s rest e) (e ∷ es) es) later
      ∙ ap (λ u. cond {A = NameMap ℕ} (not (e.1 == s && (u || list_any (is_same_name e.0) rest))) (e ∷ filter (stays s (row ∷ rest)) m) (filter (stays s (row ∷ rest)) m)) (sym (turned e.0 row ∙ is))
    where
      kept_first : (t : Bool) → filter (stays s rest) (cond {A = NameMap ℕ} t (e ∷ without_entry m row) (e ∷ m)) ≡ cond {A = NameMap ℕ} (stays s rest e) (e ∷ filter (stays s rest) (cond {A = NameMap ℕ} t (without_entry m row) m)) (filter (stays s rest) (cond {A = NameMap ℕ} t (without_entry m row) m))
      kept_first true = refl
      kept_first false = refl

-- a row is released, and then others
pub listed_released : (m : NameMap ℕ) → IsRisingMap m → (s : ℕ) (row : List ℕ) (rest : List (List ℕ)) → without_row_locks (locks_released m s row) s rest ≡ without_row_locks m s (row ∷ rest)
listed_released [] rising s row rest = refl
listed_released (e ∷ m) rising s row rest =
    let head = rising_first e m rising in
    elim (is_same_name row e.0) as (λ t. is_same_name row e.0 ≡ t → filter (stays s rest) (locks_released (e ∷ m) s row) ≡ filter (stays s (row ∷ rest)) (e ∷ m)) [
      | true ↦ λ is. itself s row rest e m is head.0
      | false ↦ λ is. beside s row rest e m is (listed_released m head.1 s row rest)
    ] refl

pub rising_locks : (locks : NameMap Slot) → T (fin.is_sorted name_cmp locks) → IsRisingMap (locks_in locks)
unfolding IsRisingMap
rising_locks locks sorted = sorted-values name_cmp (λ (x : Slot). x.session) locks sorted

-- no rows are released
pub none_listed : (m : NameMap ℕ) (s : ℕ) → without_row_locks m s [] ≡ m
none_listed [] s = refl
none_listed (e ∷ m) s =
    elim (e.1 == s) as (λ t. cond {A = NameMap ℕ} (not (t && false)) (e ∷ without_row_locks m s []) (without_row_locks m s []) ≡ e ∷ m) [
      | true ↦ ap (λ (es : NameMap ℕ). e ∷ es) (none_listed m s)
      | false ↦ ap (λ (es : NameMap ℕ). e ∷ es) (none_listed m s)
    ]

-- the row at a place, and those behind it
pub next_row : (rows : List (List ℕ)) (at : ℕ) (row : List ℕ) → at < length rows → row ≡ get_or rows at row → drop at rows ≡ row ∷ drop (at + 1) rows
next_row rows at row within is =
    let next : suc at ≡ at + 1 = omega arith in
    drop-cons rows at row within ∙ ap (λ (x : List ℕ). x ∷ drop (suc at) rows) (sym is) ∙ ap (λ n. row ∷ drop n rows) next
