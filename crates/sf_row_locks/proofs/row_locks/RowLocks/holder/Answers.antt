use Rattle.std.proofs.Common.{◌∙◌, ap, sym}
use Rattle.std.specs.Option.{option_copied, option_map}
use Rattle.sf_types.specs.Inside.NameMaps.{get}
use Rattle.sf_row_locks.specs.declared.slot.Slot.{Slot}
use Rattle.sf_row_locks.specs.Inside.Slots.{slot_of}
use Rattle.sf_row_locks.proofs.SlotLemmas.{session_in}
use Rattle.sf_row_locks.proofs.row_locks.RowLocks.holder.Goals as goal

pub returns-in-Some : goal.returns-in-Some
returns-in-Some c =
    let locks = c.self.inside.locks.held in
    let at = ap option_copied (sym c.in-Some.is) ∙ c.get.ensures ∙ ap (slot_of locks) c.of.ensures in
    ap (option_map (λ (x : Slot). x.session)) at ∙ sym (session_in locks c.args.name.now) ∙ ap (λ v. get v.held c.args.name.now) c.self.view_is

pub returns-in-None : goal.returns-in-None
returns-in-None c =
    let locks = c.self.inside.locks.held in
    let at = ap option_copied (sym c.in-None.is) ∙ c.get.ensures ∙ ap (slot_of locks) c.of.ensures in
    ap (option_map (λ (x : Slot). x.session)) at ∙ sym (session_in locks c.args.name.now) ∙ ap (λ v. get v.held c.args.name.now) c.self.view_is
