use Rattle.std.proofs.Common.{◌≡◌, false, Some, sym, ap, ◌∙◌}
use Rattle.sf_types.specs.Table.Sessions.{session_of, row_value, lacks_room}
use Rattle.sf_types.specs.Calls.RowCalls.{after_lock}
use Rattle.sf_types.specs.Table.Versions.{current_value}
use Rattle.sf_model.specs.contracts.plain.Plain.{the_view}
use Rattle.sf_model.proofs.TableLemmas.{session_at, lock_done}
use Rattle.sf_model.proofs.plain.Plain.lock.Goals as goal

pub returns-clause-ok : goal.returns-clause-ok
returns-clause-ok c =
    let t = the_view c.self.inside in
    let s = c.args.session in
    let to = c.args.to.now in
    let row = c.args.row.now in
    let now = c.args.self.now in
    let lacks : lacks_room (session_of now s) to ≡ false = ap (λ p. lacks_room p to) (sym c.part.ensures) ∙ sym c.lacks_room.ensures ∙ c.if-lacks_room.false in
    let busy = sym c.is_busy.ensures ∙ c.if-is_busy.false in
    let there : row_value (session_of now s) (current_value now row) row ≡ Some c.in-Some.value = sym c.in_ok-value.ensures ∙ c.in-Some.is in
    let has = rw (← c.self.view_is) at c.requires in
    let part = session_at t s c.index_mut-part.result.now has c.index_mut-part.ensures.value in
    rw (← c.self.view_is)
    (lock_done t s to row c.in-Some.value _ _ (rw (← c.self.view_is) at lacks) busy (rw (← c.self.view_is) at there) c.in_ok-lock_into.ensures.locks (c.in_ok-lock_into.ensures.part ∙ ap (λ p. after_lock p to row c.in-Some.value) part))
