use Rattle.std.proofs.Common.{List, [], ◌∷◌, ◌++◌, ap, sym, subst, ◌∙◌, arith}
use Rattle.sf_types.specs.declared.run.Run.{Run}
use Rattle.sf_types.specs.Space.BlockRuns.{blocks_in, AreRuns}
use Rattle.sf_stock.proofs.JoinLemmas.{runs_longer, runs_pushed, blocks_longer}
use Rattle.sf_stock.proofs.joining.push_behind.Goals as goal

pub returns-in_ok-push-clause-blocks : goal.returns-in_ok-push-clause-blocks
returns-in_ok-push-clause-blocks c =
    ap blocks_in c.in_ok-push.ensures.items
    ∙ blocks_longer c.args.runs.now.items c.args.last c.args.run (omega (arith, c.if-from.true, c.from.ensures, c.from-2.ensures, c.from-3.ensures))

pub returns-in_ok-push-clause-runs : goal.returns-in_ok-push-clause-runs
returns-in_ok-push-clause-runs c = subst AreRuns (sym c.in_ok-push.ensures.items) (runs_longer c.args.runs.now.items c.args.last c.args.run.blocks c.requires.runs)

pub returns-in_ok-push-3-clause-runs : goal.returns-in_ok-push-3-clause-runs
returns-in_ok-push-3-clause-runs c =
    subst AreRuns (sym (c.in_ok-push-3.ensures.items ∙ ap (λ (rs : List Run). rs ++ c.args.run ∷ []) c.in_ok-push-2.ensures.items))
    (runs_pushed c.args.runs.now.items c.args.last c.args.run c.requires.runs (λ same. omega (arith, c.if-from.false, c.from.ensures, c.from-2.ensures, c.from-3.ensures, same)) c.requires.some)
