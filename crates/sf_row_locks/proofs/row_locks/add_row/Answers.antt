use Rattle.std.proofs.Common.{◌+◌, ◌∙◌, ap, arith}
use Rattle.sf_types.specs.Values.Names.{name_cmp}
use Rattle.sf_row_locks.specs.declared.slot.Slot.{Slot}
use Rattle.sf_row_locks.specs.Inside.Slots.{slot_at, with_slot, with_row, with_count, locks_in}
use Rattle.sf_room_map.proofs.EntryLemmas.{values-with}
use Rattle.sf_row_locks.proofs.SlotLemmas.{few_rows, slotted_by}
use Rattle.sf_row_locks.proofs.AddedRowLemmas.{row_added}
use Rattle.sf_row_locks.proofs.row_locks.add_row.Goals as goal

pub overflow_add-at : goal.overflow_add-at
overflow_add-at c =
    let few = few_rows c.args.locks.now.held c.args.rows.now.held c.args.counts.now.held c.args.session c.requires.slotted in
    omega (arith, few, c.row_count-at.ensures, c.len-rows.ensures.len, c.len-rows.ensures.few)

pub returns-clause-slotted : goal.returns-clause-slotted
returns-clause-slotted c =
    let locks = c.args.locks.now.held in
    let rows = c.args.rows.now.held in
    let counts = c.args.counts.now.held in
    slotted_by _ _ _ _ _ _
    (c.insert_within-2.ensures.held ∙ ap (λ n. with_slot locks c.args.row (slot_at c.args.session n)) c.row_count-at.ensures)
    (c.insert_within.ensures.held ∙ ap (with_row rows (slot_at c.args.session c.row_count-at.result)) c.again.ensures ∙ ap (λ n. with_row rows (slot_at c.args.session n) c.args.row) c.row_count-at.ensures)
    (c.insert_within-3.ensures.held ∙ ap (λ n. with_count counts c.args.session (n + 1)) c.row_count-at.ensures)
    (row_added locks rows counts c.args.row c.args.session c.requires.slotted c.requires.new)

pub returns-clause-locks : goal.returns-clause-locks
returns-clause-locks c =
    ap locks_in c.insert_within-2.ensures.held
    ∙ values-with name_cmp (λ (x : Slot). x.session) c.args.locks.now.held c.args.row (slot_at c.args.session c.row_count-at.result)
