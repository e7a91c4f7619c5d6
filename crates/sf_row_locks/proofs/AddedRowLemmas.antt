-- One row more in the slots.
use Rattle.std.proofs.Common.{◌≡◌, ℕ, ◌+◌, ◌<◌, ◌≤◌, true, List, Some, None, ⊎_elim, sym, ap, subst, ◌∙◌, arith}
use Rattle.std.specs.Prelude.{is_some}
use Rattle.std.specs.Ordering.{nat_cmp}
use Rattle.std.specs.Cmp.{nat_cmp_total}
use Rattle.std.specs.Cmp.Lexicographic.{nat_list_cmp_total}
use Rattle.sf_types.specs.Values.Names.{name_cmp}
use Rattle.sf_types.specs.Inside.NameMaps.{NameMap}
use Rattle.sf_room_map.proofs.EntryLemmas as entry
use Rattle.sf_row_locks.specs.declared.slot.Slot.{Slot}
use Rattle.sf_row_locks.specs.Inside.SlotOrder.{slot_cmp, slot_cmp_total}
use Rattle.sf_row_locks.specs.Inside.Slots.{SlotRows, Counts, slot_at, slot_of, row_in, row_count, with_slot, with_row, with_count, AreSlotted}
use Rattle.sf_row_locks.proofs.SlotLemmas.{slot_here, slot_other, slot_cases, row_here, row_other, row_cases, same_or_not, count_here, count_other, session_or_not}

module _ (locks : NameMap Slot) (rows : SlotRows) (counts : Counts) (row : List ℕ) (s : ℕ) (slotted : AreSlotted locks rows counts) (new : slot_of locks row ≡ None) where
  abbrev slot : Slot
  slot = slot_at s (row_count counts s)

  -- the slot behind a session's rows is empty
  not_taken : (p : Slot) (q : List ℕ) → row_in rows p ≡ Some q → p ≡ slot → ⊥
  not_taken p q is same =
      let less : row_count counts s < row_count counts s = subst (λ (x : Slot). x.at < row_count counts x.session) same (slotted.below p q is) in
      absurd (omega (arith, less))

  not_named : (q : List ℕ) (p : Slot) → slot_of locks q ≡ Some p → q ≡ row → ⊥
  not_named q p is same = let bad = sym is ∙ ap (slot_of locks) same ∙ new in cc

  counted : (q : ℕ) → row_count counts q ≤ row_count (with_count counts s (row_count counts s + 1)) q
  counted q = ⊎_elim
      (λ same. let own : row_count (with_count counts s (row_count counts s + 1)) q ≡ row_count counts s + 1 = ap (row_count (with_count counts s (row_count counts s + 1))) same ∙ count_here counts s (row_count counts s + 1) in omega (arith, own, ap (row_count counts) same))
      (λ apart. omega (arith, count_other counts s (row_count counts s + 1) q apart))
      (session_or_not q s)

  filled_more : (q k : ℕ) → k < row_count (with_count counts s (row_count counts s + 1)) q → is_some (row_in (with_row rows slot row) (slot_at q k)) ≡ true
  filled_more q k less = ⊎_elim
      (λ same. ap (λ p. is_some (row_in (with_row rows slot row) p)) same ∙ ap is_some (row_here rows slot row))
      (λ apart. ap is_some (row_other rows slot row (slot_at q k) apart) ∙ slotted.filled q k (below apart))
      (same_or_not (slot_at q k) slot)
    where
      below : (slot_at q k ≡ slot → ⊥) → k < row_count counts q
      below apart = ⊎_elim
          (λ same. let own : row_count (with_count counts s (row_count counts s + 1)) q ≡ row_count counts s + 1 = ap (row_count (with_count counts s (row_count counts s + 1))) same ∙ count_here counts s (row_count counts s + 1) in
          ⊎_elim
          (λ last. absurd (apart (λ i. slot_at (same i) (last i))))
          (λ other. let not_last : k ≡ row_count counts s → ⊥ = other in omega (arith, less, own, ap (row_count counts) same))
          (session_or_not k (row_count counts s)))
          (λ other. omega (arith, less, count_other counts s (row_count counts s + 1) q other))
          (session_or_not q s)

  pub row_added : AreSlotted (with_slot locks row slot) (with_row rows slot row) (with_count counts s (row_count counts s + 1))
  row_added = record {
    rising = entry.sorted_with name_cmp nat_list_cmp_total locks row slot slotted.rising;
    ordered = entry.sorted_with slot_cmp slot_cmp_total rows slot row slotted.ordered;
    numbered = entry.sorted_with nat_cmp nat_cmp_total counts s (row_count counts s + 1) slotted.numbered;
    stands = λ q p is. ⊎_elim
        (λ here. ap (row_in (with_row rows slot row)) (sym here.1) ∙ row_here rows slot row ∙ ap Some (sym here.0))
        (λ old. let there = slotted.stands q p old.1 in row_other rows slot row p (not_taken p q there) ∙ there)
        (slot_cases locks row slot q p is);
    has = λ p q is. ⊎_elim
        (λ here. ap (slot_of (with_slot locks row slot)) (sym here.1) ∙ slot_here locks row slot ∙ ap Some (sym here.0))
        (λ old. let there = slotted.has p q old.1 in slot_other locks row slot q (not_named q p there) ∙ there)
        (row_cases rows slot row p q is);
    below = λ p q is. ⊎_elim
        (λ here. subst (λ (x : Slot). x.at < row_count (with_count counts s (row_count counts s + 1)) x.session) (sym here.0) (omega (arith, count_here counts s (row_count counts s + 1))))
        (λ old. omega (arith, slotted.below p q old.1, counted p.session))
        (row_cases rows slot row p q is);
    filled = filled_more;
  }
