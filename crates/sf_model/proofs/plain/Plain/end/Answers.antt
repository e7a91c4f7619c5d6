use Rattle.std.proofs.Common.{ap, ◌∙◌}
use Rattle.sf_types.specs.Calls.TransactionEnds.{after_end}
use Rattle.sf_model.specs.contracts.plain.Plain.{the_view}
use Rattle.sf_model.proofs.TableLemmas.{session_at, end_done}
use Rattle.sf_model.proofs.plain.Plain.end.Goals as goal

pub returns : goal.returns
returns c =
    let t = the_view c.self.inside in
    let has = rw (← c.self.view_is) at c.requires in
    let part = session_at t c.args.session c.index_mut-part.result.now has c.index_mut-part.ensures.value in
    rw (← c.self.view_is) (end_done t c.args.session _ _ c.release_all.ensures (c.end.ensures ∙ ap after_end part))
