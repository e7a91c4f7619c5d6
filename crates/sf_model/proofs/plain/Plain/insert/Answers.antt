use Rattle.std.proofs.Common.{sym, ap, ◌∙◌}
use Rattle.sf_types.specs.Calls.RowCalls.{after_insert}
use Rattle.sf_model.specs.contracts.plain.Plain.{the_view}
use Rattle.sf_model.proofs.TableLemmas.{session_at, insert_done}
use Rattle.sf_model.proofs.plain.Plain.insert.Goals as goal

pub returns-clause-ok : goal.returns-clause-ok
returns-clause-ok c =
    let t = the_view c.self.inside in
    let busy = sym c.is_busy.ensures ∙ c.if-is_busy.false in
    let there = rw (← c.self.view_is) at (sym c.is_present.ensures ∙ c.if-is_present.false) in
    let has = rw (← c.self.view_is) at c.requires in
    let part = session_at t c.args.session c.index_mut-part.result.now has c.index_mut-part.ensures.value in
    rw (← c.self.view_is)
    (insert_done t c.args.session c.args.row.now _ _ busy there c.in_ok-insert_into.ensures.locks (c.in_ok-insert_into.ensures.part ∙ ap (λ p. after_insert p c.args.row.now) part))
