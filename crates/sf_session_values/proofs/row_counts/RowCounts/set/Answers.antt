use Rattle.std.proofs.Common.{◌==◌, cond, Some}
use Rattle.sf_chunk_map.specs.Inside.Counts.{found_at}
use Rattle.sf_session_values.proofs.row_counts.RowCounts.set.Goals as goal
use Rattle.sf_chunk_map.specs.Inside.Counts.{Counts}
use Rattle.std.proofs.Common.{ap, ◌∙◌}
use Rattle.sf_chunk_map.proofs.CountLemmas.{after_update}

pub returns : goal.returns
returns c = λ b.
    after_update c.self.inside.counts.entries c.insert.new.self.entries c.args.birth (Some c.args.number) c.in-Ok.ensures.updates.0 b
    ∙ ap (λ (m : Counts). cond (c.args.birth == b) (Some c.args.number) (found_at m b)) c.self.view_is
