use Rattle.std.proofs.Common.{◌++◌, ◌∷◌, [], List, sym, subst}
use Rattle.sf_types.specs.declared.run.Run.{Run}
use Rattle.sf_dispensers.specs.Inside.{GainsRun}
use Rattle.sf_dispensers.proofs.RunTimesLemmas.{gains_empty, gains_last, gains_push}
use Rattle.sf_dispensers.proofs.gathering.append_run.Goals as goal

pub returns-then-last-eq0-clause-blocks : goal.returns-then-last-eq0-clause-blocks
returns-then-last-eq0-clause-blocks c = gains_empty c.args.runs.now.held c.args.last.now c.args.run c.if-last-eq0.true

pub returns-in-Some-clause-blocks : goal.returns-in-Some-clause-blocks
returns-in-Some-clause-blocks c = gains_last c.args.runs.now.held c.args.last.now c.args.run c.in-Some.both c.in-Some.ensures.both

pub returns-in-None-clause-blocks : goal.returns-in-None-clause-blocks
returns-in-None-clause-blocks c =
    let runs : List Run = c.args.runs.now.held ++ c.args.last.now ∷ [] in
    subst (λ (l : List Run). GainsRun runs (l ++ c.args.run ∷ []) c.args.run) (sym c.push_within.ensures.items) (gains_push runs c.args.run)
