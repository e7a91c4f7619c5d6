use Rattle.std.proofs.Common.{◌∙◌, ◌++◌, ◌∷◌, [], List, ap, sym, subst}
use Rattle.sf_types.specs.declared.run.Run.{Run}
use Rattle.sf_dispensers.specs.Inside.{GainsRun}
use Rattle.sf_dispensers.proofs.RunTimesLemmas.{gains_push}
use Rattle.sf_dispensers.proofs.dispenser.keep_run.Goals as goal

pub returns-then-len-capacity-clause-kept : goal.returns-then-len-capacity-clause-kept
returns-then-len-capacity-clause-kept c =
    let is = ap (λ v. v.items) c.if-join_run.ensures.joined in
    subst (λ (l : List Run). GainsRun c.args.runs.now.items l c.args.run) (sym (c.push_reserved.ensures.items ∙ ap (λ (l : List Run). l ++ c.args.run ∷ []) is)) (gains_push c.args.runs.now.items c.args.run)
