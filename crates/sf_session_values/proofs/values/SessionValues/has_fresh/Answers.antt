use Rattle.std.proofs.Common.{◌∙◌, sym}
use Rattle.sf_types.specs.Space.Due.{has_fresh}
use Rattle.sf_session_values.proofs.RowWalkLemmas.{any_here, any_later}
use Rattle.sf_session_values.proofs.values.SessionValues.has_fresh.Goals as goal

pub returns-then-is_fresh_at : goal.returns-then-is_fresh_at
returns-then-is_fresh_at c = any_here (λ row. has_fresh row.1) c.args.self.now.held.working c.loop-k.k _ c.loop-k.invariant (sym c.is_fresh_at.ensures ∙ c.if-is_fresh_at.true)

pub loop-k-preserved : goal.loop-k-preserved
loop-k-preserved c = any_later (λ row. has_fresh row.1) c.args.self.now.held.working c.loop-k.k _ c.loop-k.invariant (sym c.is_fresh_at.ensures ∙ c.if-is_fresh_at.false)
