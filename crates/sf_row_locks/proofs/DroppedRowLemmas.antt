-- One row fewer in the slots.
use Rattle.std.proofs.Common.{◌≡◌, ℕ, ◌-◌, ◌<◌, ◌≤◌, true, List, Some, ⊎_elim, sym, ap, subst, ◌∙◌, arith}
use Rattle.std.specs.Prelude.{is_some}
use Rattle.std.specs.Option.{option_map}
use Rattle.std.specs.Ordering.{nat_cmp}
use Rattle.std.specs.Cmp.{nat_cmp_total}
use Rattle.std.specs.Cmp.Lexicographic.{nat_list_cmp_total}
use Rattle.sf_types.specs.Values.Names.{name_cmp}
use Rattle.sf_types.specs.Inside.NameMaps.{NameMap, without_entry}
use Rattle.sf_room_map.proofs.EntryLemmas as entry
use Rattle.sf_row_locks.specs.declared.slot.Slot.{Slot}
use Rattle.sf_row_locks.specs.Inside.SlotOrder.{slot_cmp, slot_cmp_total}
use Rattle.sf_row_locks.specs.Inside.Slots.{SlotRows, Counts, slot_at, slot_of, row_in, row_count, with_slot, without_slot, with_row, without_row, with_count, locks_in, AreSlotted}
use Rattle.sf_row_locks.proofs.SlotLemmas.{names_exact, some_row, some_slot, slot_here, slot_other, slot_left, slot_cases, slot_left_cases, row_here, row_other, row_left, row_cases, row_left_cases, same_or_not, count_here, count_other, session_or_not, session_in}

module _ (locks : NameMap Slot) (rows : SlotRows) (counts : Counts) (row : List ℕ) (slot : Slot) (slotted : AreSlotted locks rows counts) (stood : row_in rows slot ≡ Some row) where
  abbrev last : Slot
  last = slot_at slot.session (row_count counts slot.session - 1)

  abbrev fewer : Counts
  fewer = with_count counts slot.session (row_count counts slot.session - 1)

  some_rows : 1 ≤ row_count counts slot.session
  some_rows = omega (arith, slotted.below slot row stood)

  -- the last row of the session is there
  pub last_there : is_some (row_in rows last) ≡ true
  last_there = slotted.filled slot.session (row_count counts slot.session - 1) (omega (arith, some_rows))

  -- a slot other than the last one is below it
  below_last : (p : Slot) (q : List ℕ) → row_in rows p ≡ Some q → (p ≡ last → ⊥) → p.at < row_count fewer p.session
  below_last p q is apart = ⊎_elim
      (λ same.
      let less : p.at < row_count counts slot.session = subst (λ (k : ℕ). p.at < row_count counts k) same (slotted.below p q is) in
      let now : row_count fewer p.session ≡ row_count counts slot.session - 1 = ap (row_count fewer) same ∙ count_here counts slot.session (row_count counts slot.session - 1) in
      ⊎_elim
      (λ at. absurd (apart (λ i. slot_at (same i) (at i))))
      (λ at. let not_last : p.at ≡ row_count counts slot.session - 1 → ⊥ = at in omega (arith, less, now))
      (session_or_not p.at (row_count counts slot.session - 1)))
      (λ other. omega (arith, slotted.below p q is, count_other counts slot.session (row_count counts slot.session - 1) p.session other))
      (session_or_not p.session slot.session)

  below_fewer : (q k : ℕ) → k < row_count fewer q → (k < row_count counts q) × (slot_at q k ≡ last → ⊥)
  below_fewer q k less = ⊎_elim
      (λ same.
      let now : row_count fewer q ≡ row_count counts slot.session - 1 = ap (row_count fewer) same ∙ count_here counts slot.session (row_count counts slot.session - 1) in
      (omega (arith, less, now, ap (row_count counts) same), λ is. let at : k ≡ row_count counts slot.session - 1 = ap (λ (p : Slot). p.at) is in absurd (omega (arith, less, now, at))))
      (λ other. (omega (arith, less, count_other counts slot.session (row_count counts slot.session - 1) q other), λ is. other (ap (λ (p : Slot). p.session) is)))
      (session_or_not q slot.session)

  -- two rows don't stand in one slot, and one row doesn't stand in two
  one_slot : (q : List ℕ) (p r : Slot) → row_in rows p ≡ Some q → row_in rows r ≡ Some q → p ≡ r
  one_slot q p r is also = some_slot p r (sym (slotted.has p q is) ∙ slotted.has r q also)

  one_row : (p : Slot) (q r : List ℕ) → row_in rows p ≡ Some q → row_in rows p ≡ Some r → q ≡ r
  one_row p q r is also = some_row q r (sym is ∙ also)

  -- the last row goes itself
  pub last_gone : slot ≡ last → AreSlotted (without_slot locks row) (without_row rows last) fewer
  last_gone is_last =
      let stood_last : row_in rows last ≡ Some row = ap (row_in rows) (sym is_last) ∙ stood in
      record {
        rising = entry.sorted_without name_cmp nat_list_cmp_total row locks slotted.rising;
        ordered = entry.sorted_without slot_cmp slot_cmp_total last rows slotted.ordered;
        numbered = entry.sorted_with nat_cmp nat_cmp_total counts slot.session (row_count counts slot.session - 1) slotted.numbered;
        stands = λ q p is.
            let old = slot_left_cases locks row q p slotted.rising is in
            let there = slotted.stands q p old.1 in
            row_left rows last p slotted.ordered (λ same. old.0 (one_row p q row there (ap (row_in rows) same ∙ stood_last))) ∙ there;
        has = λ p q is.
            let old = row_left_cases rows last p q slotted.ordered is in
            let there = slotted.has p q old.1 in
            slot_left locks row q slotted.rising (λ same. old.0 (one_slot q p last old.1 (stood_last ∙ ap Some (sym same)))) ∙ there;
        below = λ p q is. let old = row_left_cases rows last p q slotted.ordered is in below_last p q old.1 old.0;
        filled = λ q k less. let old = below_fewer q k less in ap is_some (row_left rows last (slot_at q k) slotted.ordered old.1) ∙ slotted.filled q k old.0;
      }

  module _ (moved : List ℕ) (moves : row_in rows last ≡ Some moved) (not_last : slot ≡ last → ⊥) where
    other_row : moved ≡ row → ⊥
    other_row same = not_last (one_slot row slot last stood (moves ∙ ap Some same))

    -- both rows are still there when the one has lost its lock and the other its slot
    pub still_named : slot_of (without_slot locks row) moved ≡ Some last
    still_named = slot_left locks row moved slotted.rising other_row ∙ slotted.has last moved moves

    pub still_stands : row_in (without_row rows last) slot ≡ Some row
    still_stands = row_left rows last slot slotted.ordered not_last ∙ stood

    -- another row is the last, and moves into the slot
    pub last_moved : AreSlotted (with_slot (without_slot locks row) moved slot) (with_row (without_row rows last) slot moved) fewer
    last_moved =
        let locks_left = without_slot locks row in
        let rows_left = without_row rows last in
        record {
          rising = entry.sorted_with name_cmp nat_list_cmp_total locks_left moved slot (entry.sorted_without name_cmp nat_list_cmp_total row locks slotted.rising);
          ordered = entry.sorted_with slot_cmp slot_cmp_total rows_left slot moved (entry.sorted_without slot_cmp slot_cmp_total last rows slotted.ordered);
          numbered = entry.sorted_with nat_cmp nat_cmp_total counts slot.session (row_count counts slot.session - 1) slotted.numbered;
          stands = λ q p is. ⊎_elim
              (λ here. ap (row_in (with_row rows_left slot moved)) (sym here.1) ∙ row_here rows_left slot moved ∙ ap Some (sym here.0))
              (λ left.
              let old = slot_left_cases locks row q p slotted.rising left.1 in
              let there = slotted.stands q p old.1 in
              row_other rows_left slot moved p (λ same. old.0 (one_row p q row there (ap (row_in rows) same ∙ stood)))
              ∙ row_left rows last p slotted.ordered (λ same. left.0 (one_row p q moved there (ap (row_in rows) same ∙ moves)))
              ∙ there)
              (slot_cases locks_left moved slot q p is);
          has = λ p q is. ⊎_elim
              (λ here. ap (slot_of (with_slot locks_left moved slot)) (sym here.1) ∙ slot_here locks_left moved slot ∙ ap Some (sym here.0))
              (λ left.
              let old = row_left_cases rows last p q slotted.ordered left.1 in
              slot_other locks_left moved slot q (λ same. old.0 (one_slot q p last old.1 (moves ∙ ap Some (sym same))))
              ∙ slot_left locks row q slotted.rising (λ same. left.0 (one_slot q p slot old.1 (stood ∙ ap Some (sym same))))
              ∙ slotted.has p q old.1)
              (row_cases rows_left slot moved p q is);
          below = λ p q is. ⊎_elim
              (λ here. subst (λ (x : Slot). x.at < row_count fewer x.session) (sym here.0) (below_last slot row stood not_last))
              (λ left. let old = row_left_cases rows last p q slotted.ordered left.1 in below_last p q old.1 old.0)
              (row_cases rows_left slot moved p q is);
          filled = λ q k less.
              let old = below_fewer q k less in
              ⊎_elim
              (λ same. ap (λ p. is_some (row_in (with_row rows_left slot moved) p)) same ∙ ap is_some (row_here rows_left slot moved))
              (λ apart. ap is_some (row_other rows_left slot moved (slot_at q k) apart ∙ row_left rows last (slot_at q k) slotted.ordered old.1) ∙ slotted.filled q k old.0)
              (same_or_not (slot_at q k) slot);
        }

    -- the sessions of the other rows stay
    pub moved_stays : locks_in (with_slot (without_slot locks row) moved slot) ≡ without_entry (locks_in locks) row
    moved_stays =
        let left = without_slot locks row in
        entry.values-with name_cmp (λ (x : Slot). x.session) left moved slot
        ∙ entry.with_same name_cmp nat_list_cmp_total names_exact (locks_in left) moved slot.session
        (entry.sorted-values name_cmp (λ (x : Slot). x.session) left (entry.sorted_without name_cmp nat_list_cmp_total row locks slotted.rising))
        (session_in left moved ∙ ap (option_map (λ (x : Slot). x.session)) still_named)
        ∙ entry.values-without name_cmp (λ (x : Slot). x.session) locks row
