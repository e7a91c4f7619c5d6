use Rattle.std.proofs.Common.{rules, arith}
use Rattle.sf_block_space.proofs.ChoiceLemmas.{first-fit, longest}
use Rattle.sf_block_space.proofs.maximal_runs.MaximalRuns.next_offset.Goals as goal

pub returns-then-from-n-clause-next : goal.returns-then-from-n-clause-next
returns-then-from-n-clause-next c run stands =
    rw (← c.self.view_is)
    (first-fit c.self.inside.runs.items c.args.n c.loop-at.at run (search rules) (search rules) c.loop-at.invariant.fewer)

pub returns-clause-next : goal.returns-clause-next
returns-clause-next c run stands =
    let old = c.loop-at.invariant in
    rw (← c.self.view_is)
    (longest c.self.inside.runs.items c.args.n c.loop-at.longest run (search rules)
    (λ k less. old.fewer k (omega (arith, less, c.deref-run-items.ensures.len, c.loop-at-test.false)))
    (λ k less. old.most k (omega (arith, less, c.deref-run-items.ensures.len, c.loop-at-test.false)))
    old.lowest)
