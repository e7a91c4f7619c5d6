use Rattle.std.proofs.Common.{◌∙◌, ap, sym}
use Rattle.sf_types.specs.Inside.NameMaps.{get}
use Rattle.sf_row_locks.specs.Inside.Slots.{slot_of}
use Rattle.sf_row_locks.proofs.SlotLemmas.{no_slot}
use Rattle.sf_row_locks.proofs.row_locks.RowLocks.take.Goals as goal

pub add_row-requires-clause-new : goal.add_row-requires-clause-new
add_row-requires-clause-new c =
    let locks = c.self.inside.locks.held in
    let is = ap (λ v. v.held) c.self.view_is ∙ c.make_room.ensures.held in
    ap (slot_of locks) c.of.ensures ∙ no_slot locks c.args.name (ap (λ m. get m c.args.name) is ∙ sym c.holder.ensures ∙ c.in_default.is)
