use Rattle.std.proofs.Common.{◌-◌, ◌∙◌, ap, sym, subst, refl}
use Rattle.std.specs.Prelude.{is_some, IsSome}
use Rattle.sf_row_locks.specs.declared.slot.Slot.{Slot}
use Rattle.sf_row_locks.specs.Inside.Slots.{slot_at, slot_of, row_in, with_slot, with_row, without_row, with_count, locks_in}
use Rattle.sf_row_locks.proofs.DroppedRowLemmas.{last_there, last_gone, last_moved, still_named, still_stands, moved_stays}
use Rattle.sf_row_locks.proofs.SlotLemmas.{gone_stays, slotted_by}
use Rattle.sf_row_locks.proofs.row_locks.drop_row.Goals as goal
use Rattle.sf_row_locks.proofs.row_locks.drop_row.Goals.{then-slot-last, else-slot-last}

pub unreachable-requires : goal.unreachable-requires
unreachable-requires c =
    let locks = c.args.locks.now.held in
    let rows = c.args.rows.now.held in
    let counts = c.args.counts.now.held in
    let there = last_there locks rows counts c.args.row.now c.args.slot c.requires.slotted c.requires.row in
    let is = sym c.in_default.is ∙ c.remove.ensures.value ∙ ap (λ k. row_in rows (slot_at c.args.slot.session (k - 1))) c.row_count.ensures in
    let bad = ap is_some is ∙ there in
    absurd cc

pub replace-requires : goal.replace-requires
replace-requires c =
    let locks = c.args.locks.now.held in
    let rows = c.args.rows.now.held in
    let counts = c.args.counts.now.held in
    let moves = sym (sym c.in-Some.is ∙ c.remove.ensures.value ∙ ap (λ k. row_in rows (slot_at c.args.slot.session (k - 1))) c.row_count.ensures) in
    let named = still_named locks rows counts c.args.row.now c.args.slot c.requires.slotted c.requires.row c.in-Some.moved moves (λ is. c.if-slot-last.true (ap (λ (p : Slot). p.at) is ∙ ap (λ k. k - 1) (sym c.row_count.ensures))) in
    subst IsSome (sym (ap (λ l. slot_of l c.in-Some.moved) c.remove-2.ensures.held ∙ named)) refl

pub replace-requires-then-slot-last : goal.replace-requires-then-slot-last
replace-requires-then-slot-last c =
    let locks = c.args.locks.now.held in
    let rows = c.args.rows.now.held in
    let counts = c.args.counts.now.held in
    let moves = sym (sym c.in-Some.is ∙ c.remove.ensures.value ∙ ap (λ k. row_in rows (slot_at c.args.slot.session (k - 1))) c.row_count.ensures) in
    let stands = still_stands locks rows counts c.args.row.now c.args.slot c.requires.slotted c.requires.row c.in-Some.moved moves (λ is. c.if-slot-last.true (ap (λ (p : Slot). p.at) is ∙ ap (λ k. k - 1) (sym c.row_count.ensures))) in
    subst IsSome (sym (ap (λ r. row_in r c.args.slot) (c.remove.ensures.held ∙ ap (λ k. without_row rows (slot_at c.args.slot.session (k - 1))) c.row_count.ensures) ∙ stands)) refl

pub returns-clause-slotted : goal.returns-clause-slotted
returns-clause-slotted c =
    let locks = c.args.locks.now.held in
    let rows = c.args.rows.now.held in
    let counts = c.args.counts.now.held in
    let row = c.args.row.now in
    let slot = c.args.slot in
    let moves = sym (sym c.in-Some.is ∙ c.remove.ensures.value ∙ ap (λ k. row_in rows (slot_at slot.session (k - 1))) c.row_count.ensures) in
    let rows_left = c.remove.ensures.held ∙ ap (λ k. without_row rows (slot_at slot.session (k - 1))) c.row_count.ensures in
    let counts_is = c.replace-2.ensures.held ∙ ap (λ k. with_count counts slot.session (k - 1)) c.row_count.ensures in
    elim c.if-slot-last.branch [
      | then-slot-last w ↦
          slotted_by _ _ _ _ _ _
          (ap (λ v. v.held) w.locks-is ∙ w.replace.ensures.held ∙ ap (λ l. with_slot l c.in-Some.moved slot) c.remove-2.ensures.held)
          (ap (λ v. v.held) w.rows-is ∙ w.replace-then-slot-last.ensures.held ∙ ap (λ r. with_row r slot c.in-Some.moved) rows_left)
          counts_is
          (last_moved locks rows counts row slot c.requires.slotted c.requires.row c.in-Some.moved moves (λ is. w.if-slot-last.true (ap (λ (p : Slot). p.at) is ∙ ap (λ k. k - 1) (sym c.row_count.ensures))))
      | else-slot-last w ↦
          slotted_by _ _ _ _ _ _
          (ap (λ v. v.held) w.locks-is ∙ c.remove-2.ensures.held)
          (ap (λ v. v.held) w.rows-is ∙ rows_left)
          counts_is
          (last_gone locks rows counts row slot c.requires.slotted c.requires.row (ap (slot_at slot.session) (w.if-slot-last.false ∙ ap (λ k. k - 1) c.row_count.ensures)))
    ]

pub returns-clause-locks : goal.returns-clause-locks
returns-clause-locks c =
    let locks = c.args.locks.now.held in
    let rows = c.args.rows.now.held in
    let counts = c.args.counts.now.held in
    let row = c.args.row.now in
    let slot = c.args.slot in
    let moves = sym (sym c.in-Some.is ∙ c.remove.ensures.value ∙ ap (λ k. row_in rows (slot_at slot.session (k - 1))) c.row_count.ensures) in
    elim c.if-slot-last.branch [
      | then-slot-last w ↦
          ap locks_in (ap (λ v. v.held) w.locks-is ∙ w.replace.ensures.held ∙ ap (λ l. with_slot l c.in-Some.moved slot) c.remove-2.ensures.held)
          ∙ moved_stays locks rows counts row slot c.requires.slotted c.requires.row c.in-Some.moved moves (λ is. w.if-slot-last.true (ap (λ (p : Slot). p.at) is ∙ ap (λ k. k - 1) (sym c.row_count.ensures)))
      | else-slot-last w ↦ ap locks_in (ap (λ v. v.held) w.locks-is ∙ c.remove-2.ensures.held) ∙ gone_stays locks row
    ]
