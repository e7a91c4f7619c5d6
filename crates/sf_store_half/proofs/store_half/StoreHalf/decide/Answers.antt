use Rattle.std.proofs.Common.{◌≡◌, true, false, ap, ◌∙◌, arith}
use Rattle.std.specs.Prelude.{nat_le}
use Rattle.std.proofs.lemmas.Bool.Decides.{nat_tests}
use Rattle.sf_retention.specs.Notes.{due_pairs}
use Rattle.sf_store_half.specs.Fields.{Fields}
use Rattle.sf_store_half.proofs.DecisionLemmas.{granted_is, refused_is}
use Rattle.sf_store_half.proofs.store_half.StoreHalf.decide.Goals as goal

pub returns-then-trial : goal.returns-then-trial
returns-then-trial c =
    let t = c.in_ok-trial.trial in
    let more = c.if-trial.true in
    let fails : nat_le t.wanted t.free ≡ false = grind (arith, nat_tests, more) in
    refused_is c.args.self.now c.args.session c.args.births.now c.args.cuts.now t c.in_ok-trial.ensures.trial c.in_ok-trial.ensures.candidate c.in_ok-trial.ensures.last fails

pub returns : goal.returns
returns c =
    let t = c.in_ok-trial.trial in
    let less = c.if-trial.false in
    let fits : nat_le t.wanted t.free ≡ true = grind (arith, nat_tests, less) in
    granted_is c.args.self.now c.args.session c.args.births.now c.args.cuts.now t c.in_ok-due.due c.in_ok-found.found c.in_ok-trial.ensures.trial c.in_ok-trial.ensures.candidate fits
    (c.in_ok-due.ensures ∙ ap (λ (x : Fields). due_pairs x.notes t.floor) c.self.view_is) c.in_ok-found.ensures
