use Rattle.std.proofs.Common.{ap, ◌∙◌}
use Rattle.sf_types.specs.Orders.RowEnds.{row_ends, row_ends_of}
use Rattle.sf_model.proofs.IndexLemmas.{present-index}
use Rattle.sf_model.proofs.plain.Plain.rows.Goals as goal

pub returns : goal.returns
returns c =
    let inside = c.self.inside in
    c.in_ok-rows.ensures.ends
    ∙ ap row_ends (present-index inside.current inside.commits.items c.in_ok-rows.ensures.ordered c.self.invariant)
    ∙ ap row_ends_of c.self.view_is
