use Rattle.std.proofs.Common.{◌∙◌, ap, sym}
use Rattle.std.specs.Prelude.{◌==◌}
use Rattle.std.specs.Option.{option_copied, option_map}
use Rattle.sf_types.specs.Inside.NameMaps.{get, without_entry}
use Rattle.sf_types.proofs.NumberLemmas.{own_number, other_number}
use Rattle.sf_row_locks.specs.declared.slot.Slot.{Slot}
use Rattle.sf_row_locks.specs.Inside.Slots.{slot_of, locks_in}
use Rattle.sf_row_locks.proofs.SlotLemmas.{session_in}
use Rattle.sf_row_locks.proofs.LockLemmas.{released_none, released_own, released_other}
use Rattle.sf_row_locks.proofs.row_locks.RowLocks.release.Goals as goal

pub returns-in_default-clause-held : goal.returns-in_default-clause-held
returns-in_default-clause-held c =
    let locks = c.self.inside.locks.held in
    let at = sym (ap option_copied (sym c.in_default.is) ∙ c.get.ensures ∙ ap (slot_of locks) c.of-row.ensures) in
    sym (released_none c.args.self.now.held c.args.session c.args.name.now
    (ap (λ v. get v.held c.args.name.now) (sym c.self.view_is) ∙ session_in locks c.args.name.now ∙ ap (option_map (λ (x : Slot). x.session)) at))

pub drop_row-requires-clause-row : goal.drop_row-requires-clause-row
drop_row-requires-clause-row c = c.self.invariant.stands c.of-row.result c.in-Some.slot.now (sym (ap option_copied (sym c.in-Some.is) ∙ c.get.ensures))

pub returns-then-slot-session-clause-held : goal.returns-then-slot-session-clause-held
returns-then-slot-session-clause-held c =
    let locks = c.self.inside.locks.held in
    let at = sym (ap option_copied (sym c.in-Some.is) ∙ c.get.ensures ∙ ap (slot_of locks) c.of-row.ensures) in
    let own = ap (λ k. k == c.args.session) c.if-slot-session.true ∙ own_number c.args.session in
    c.drop_row.ensures.locks ∙ ap (without_entry (locks_in locks)) c.of-row.ensures ∙ ap (λ v. without_entry v.held c.args.name.now) c.self.view_is
    ∙ sym (released_own c.args.self.now.held c.args.session c.args.name.now c.in-Some.slot.now.session
    (ap (λ v. get v.held c.args.name.now) (sym c.self.view_is) ∙ session_in locks c.args.name.now ∙ ap (option_map (λ (x : Slot). x.session)) at) own)

pub returns-else-slot-session-clause-held : goal.returns-else-slot-session-clause-held
returns-else-slot-session-clause-held c =
    let locks = c.self.inside.locks.held in
    let at = sym (ap option_copied (sym c.in-Some.is) ∙ c.get.ensures ∙ ap (slot_of locks) c.of-row.ensures) in
    sym (released_other c.args.self.now.held c.args.session c.args.name.now c.in-Some.slot.now.session
    (ap (λ v. get v.held c.args.name.now) (sym c.self.view_is) ∙ session_in locks c.args.name.now ∙ ap (option_map (λ (x : Slot). x.session)) at)
    (other_number c.in-Some.slot.now.session c.args.session c.if-slot-session.false))
