-- Slots and their rows.
use Rattle.std.proofs.Common.{◌≡◌, ℕ, ◌≤◌, true, false, ◌||◌, List, [], ◌∷◌, length, map, Option, Some, None, ◌⊎◌, ⊎_elim, inl, inr, refl, sym, ap, subst, ◌∙◌, arith}
use Rattle.std.specs.Prelude.{◌==◌, T, unwrap_or}
use Rattle.std.specs.List.{list_any}
use Rattle.std.specs.Map.{keys_of}
use Rattle.std.specs.Option.{option_map}
use Rattle.std.specs.Ordering.{nat_cmp, eq_by_cmp}
use Rattle.std.proofs.lemmas.List.{length-map}
use Rattle.std.proofs.lemmas.Map.Entries.{length-keys_of}
use Rattle.std.proofs.lemmas.Map.Made.{lookup-map_values, is_some-lookup}
use Rattle.std.proofs.lemmas.Map.Steps.{le-length_from_below}
use Rattle.sf_types.proofs.BoolLemmas.{or-true}
use Rattle.sf_types.proofs.NumberLemmas.{own_number}
use Rattle.std.specs.Cmp.{nat_cmp_total}
use Rattle.std.specs.Cmp.Lexicographic.{nat_list_cmp_total}
use Rattle.std.specs.FinMap.{IsAntisymmetric, nat_cmp-IsAntisymmetric, slice_cmp-IsAntisymmetric}
use Rattle.std.specs.FinMap.Entries.{is_sorted}
use Rattle.sf_types.specs.Values.Names.{name_cmp}
use Rattle.sf_types.specs.Inside.NameMaps.{NameMap, without_entry}
use Rattle.sf_room_map.specs.Entries.{value_for}
use Rattle.sf_room_map.proofs.EntryLemmas as entry
use Rattle.sf_row_locks.specs.declared.slot.Slot.{Slot}
use Rattle.sf_row_locks.specs.Inside.SlotOrder.{slot_cmp, slots_exact, slot_cmp_total}
use Rattle.sf_row_locks.specs.Inside.Slots.{SlotRows, Counts, slot_at, slot_of, row_in, row_count, with_slot, without_slot, with_row, without_row, with_count, locks_in, AreSlotted}

pub names_exact : IsAntisymmetric name_cmp
names_exact = slice_cmp-IsAntisymmetric nat_cmp-IsAntisymmetric

pub some_row : (a b : List ℕ) → ◌≡◌ {A = Option (List ℕ)} (Some a) (Some b) → a ≡ b
some_row a b is = cc

pub some_slot : (a b : Slot) → ◌≡◌ {A = Option Slot} (Some a) (Some b) → a ≡ b
some_slot a b is = cc

-- the slots of a name
pub slot_here : (locks : NameMap Slot) (row : List ℕ) (slot : Slot) → slot_of (with_slot locks row slot) row ≡ Some slot
slot_here locks row slot = entry.with_here name_cmp nat_list_cmp_total names_exact locks row slot

pub slot_other : (locks : NameMap Slot) (row : List ℕ) (slot : Slot) (q : List ℕ) → (q ≡ row → ⊥) → slot_of (with_slot locks row slot) q ≡ slot_of locks q
slot_other locks row slot q apart = entry.with_other name_cmp nat_list_cmp_total names_exact locks row slot q (entry.other_key name_cmp nat_list_cmp_total names_exact q row apart)

pub slot_left : (locks : NameMap Slot) (row q : List ℕ) → T (is_sorted name_cmp locks) → (q ≡ row → ⊥) → slot_of (without_slot locks row) q ≡ slot_of locks q
slot_left locks row q sorted apart = entry.without_other name_cmp nat_list_cmp_total names_exact locks row q sorted (entry.other_key name_cmp nat_list_cmp_total names_exact q row apart)

pub slot_cases : (locks : NameMap Slot) (row : List ℕ) (slot : Slot) (q : List ℕ) (p : Slot) → slot_of (with_slot locks row slot) q ≡ Some p → ((q ≡ row) × (slot ≡ p)) ⊎ ((q ≡ row → ⊥) × (slot_of locks q ≡ Some p))
slot_cases locks row slot q p is =
    ⊎_elim inl (λ old. inr (entry.not_own name_cmp nat_list_cmp_total names_exact q row old.0, old.1)) (entry.with_cases name_cmp nat_list_cmp_total names_exact locks row slot q p is)

pub slot_left_cases : (locks : NameMap Slot) (row q : List ℕ) (p : Slot) → T (is_sorted name_cmp locks) → slot_of (without_slot locks row) q ≡ Some p → (q ≡ row → ⊥) × (slot_of locks q ≡ Some p)
slot_left_cases locks row q p sorted is =
    let old = entry.without_cases name_cmp nat_list_cmp_total names_exact locks row q p sorted is in
    (entry.not_own name_cmp nat_list_cmp_total names_exact q row old.0, old.1)

-- the rows in slots
pub row_here : (rows : SlotRows) (slot : Slot) (row : List ℕ) → row_in (with_row rows slot row) slot ≡ Some row
row_here rows slot row = entry.with_here slot_cmp slot_cmp_total slots_exact rows slot row

pub row_other : (rows : SlotRows) (slot : Slot) (row : List ℕ) (p : Slot) → (p ≡ slot → ⊥) → row_in (with_row rows slot row) p ≡ row_in rows p
row_other rows slot row p apart = entry.with_other slot_cmp slot_cmp_total slots_exact rows slot row p (entry.other_key slot_cmp slot_cmp_total slots_exact p slot apart)

pub row_left : (rows : SlotRows) (slot p : Slot) → T (is_sorted slot_cmp rows) → (p ≡ slot → ⊥) → row_in (without_row rows slot) p ≡ row_in rows p
row_left rows slot p sorted apart = entry.without_other slot_cmp slot_cmp_total slots_exact rows slot p sorted (entry.other_key slot_cmp slot_cmp_total slots_exact p slot apart)

pub row_cases : (rows : SlotRows) (slot : Slot) (row : List ℕ) (p : Slot) (q : List ℕ) → row_in (with_row rows slot row) p ≡ Some q → ((p ≡ slot) × (row ≡ q)) ⊎ ((p ≡ slot → ⊥) × (row_in rows p ≡ Some q))
row_cases rows slot row p q is =
    ⊎_elim inl (λ old. inr (entry.not_own slot_cmp slot_cmp_total slots_exact p slot old.0, old.1)) (entry.with_cases slot_cmp slot_cmp_total slots_exact rows slot row p q is)

pub row_left_cases : (rows : SlotRows) (slot p : Slot) (q : List ℕ) → T (is_sorted slot_cmp rows) → row_in (without_row rows slot) p ≡ Some q → (p ≡ slot → ⊥) × (row_in rows p ≡ Some q)
row_left_cases rows slot p q sorted is =
    let old = entry.without_cases slot_cmp slot_cmp_total slots_exact rows slot p q sorted is in
    (entry.not_own slot_cmp slot_cmp_total slots_exact p slot old.0, old.1)

pub same_or_not : (p slot : Slot) → (p ≡ slot) ⊎ (p ≡ slot → ⊥)
same_or_not p slot = elim (eq_by_cmp slot_cmp p slot) as (λ t. eq_by_cmp slot_cmp p slot ≡ t → (p ≡ slot) ⊎ (p ≡ slot → ⊥)) [
  | true ↦ λ tie. inl (entry.same_key slot_cmp slot_cmp_total slots_exact p slot tie)
  | false ↦ λ apart. inr (entry.not_own slot_cmp slot_cmp_total slots_exact p slot apart)
] refl

-- the numbers of rows
pub count_here : (counts : Counts) (s n : ℕ) → row_count (with_count counts s n) s ≡ n
count_here counts s n = ap (λ x. unwrap_or x 0) (entry.with_here nat_cmp nat_cmp_total nat_cmp-IsAntisymmetric counts s n)

pub count_other : (counts : Counts) (s n q : ℕ) → (q ≡ s → ⊥) → row_count (with_count counts s n) q ≡ row_count counts q
count_other counts s n q apart = ap (λ x. unwrap_or x 0) (entry.with_other nat_cmp nat_cmp_total nat_cmp-IsAntisymmetric counts s n q (entry.other_key nat_cmp nat_cmp_total nat_cmp-IsAntisymmetric q s apart))

pub session_or_not : (q s : ℕ) → (q ≡ s) ⊎ (q ≡ s → ⊥)
session_or_not q s = elim (eq_by_cmp nat_cmp q s) as (λ t. eq_by_cmp nat_cmp q s ≡ t → (q ≡ s) ⊎ (q ≡ s → ⊥)) [
  | true ↦ λ tie. inl (entry.same_key nat_cmp nat_cmp_total nat_cmp-IsAntisymmetric q s tie)
  | false ↦ λ apart. inr (entry.not_own nat_cmp nat_cmp_total nat_cmp-IsAntisymmetric q s apart)
] refl

-- the session of a row, by its slot
pub session_in : (locks : NameMap Slot) (row : List ℕ) → value_for name_cmp (locks_in locks) row ≡ option_map (λ x. x.session) (slot_of locks row)
session_in locks row = lookup-map_values (λ (x : Slot). x.session) _ locks

-- a row without a session has no slot
pub no_slot : (locks : NameMap Slot) (row : List ℕ) → value_for name_cmp (locks_in locks) row ≡ None → slot_of locks row ≡ None
no_slot locks row none =
    elim (slot_of locks row) as (λ r. option_map (λ (x : Slot). x.session) r ≡ None → r ≡ None) [ None ↦ λ _. refl | Some slot ↦ λ bad. absurd cc ] (sym (session_in locks row) ∙ none)

-- the locks without one
pub gone_stays : (locks : NameMap Slot) (row : List ℕ) → locks_in (without_slot locks row) ≡ without_entry (locks_in locks) row
gone_stays locks row = entry.values-without name_cmp (λ (x : Slot). x.session) locks row

-- ---- how many rows there are
pub any_at : (q : ℕ) (slot : Slot) (slots : List Slot) → slot.at ≡ q → list_any (λ p. eq_by_cmp slot_cmp slot p) slots ≡ true → list_any (λ k. q == k) (map (λ p. p.at) slots) ≡ true
any_at q slot [] at found = absurd cc
any_at q slot (p ∷ slots) at found =
    elim (eq_by_cmp slot_cmp slot p) as (λ t. eq_by_cmp slot_cmp slot p ≡ t → (t || list_any (λ p. eq_by_cmp slot_cmp slot p) slots) ≡ true → (q == p.at || list_any (λ k. q == k) (map (λ p. p.at) slots)) ≡ true) [
      | true ↦ λ tie _. ap (λ t. t || list_any (λ k. q == k) (map (λ (p : Slot). p.at) slots)) (ap (λ k. q == k) (sym (ap (λ (p : Slot). p.at) (entry.same_key slot_cmp slot_cmp_total slots_exact slot p tie)) ∙ at) ∙ own_number q)
      | false ↦ λ _ rest. or-true (q == p.at) (list_any (λ k. q == k) (map (λ (p : Slot). p.at) slots)) (any_at q slot slots at rest)
    ] refl found

-- a session has no more rows than there are
pub few_rows : (locks : NameMap Slot) (rows : SlotRows) (counts : Counts) (s : ℕ) → AreSlotted locks rows counts → row_count counts s ≤ length rows
few_rows locks rows counts s slotted =
    let keys = keys_of rows in
    let ats = map (λ (p : Slot). p.at) keys in
    let many = le-length_from_below ats (row_count counts s) (λ q less. any_at q (slot_at s q) keys refl (sym (is_some-lookup (λ p. eq_by_cmp slot_cmp (slot_at s q) p) rows) ∙ slotted.filled s q less)) in
    omega (arith, many, length-map {B = ℕ} keys (λ (p : Slot). p.at), length-keys_of rows)

-- the three maps, each by what it was made of
pub slotted_by : (locks l : NameMap Slot) (rows r : SlotRows) (counts c : Counts) → locks ≡ l → rows ≡ r → counts ≡ c → AreSlotted l r c → AreSlotted locks rows counts
slotted_by locks l rows r counts c locks_is rows_is counts_is slotted =
    subst (λ x. AreSlotted x rows counts) (sym locks_is) (subst (λ x. AreSlotted l x counts) (sym rows_is) (subst (λ x. AreSlotted l r x) (sym counts_is) slotted))
