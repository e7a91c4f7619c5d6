use Rattle.std.proofs.Common.{◌≤◌, ◌++◌, ◌∙◌, length, ap, sym, arith}
use Rattle.sf_session_values.specs.Inside.EntryBirths.{births_kept}
use Rattle.sf_session_values.proofs.EntryBirthLemmas.{births_added, all_births_added, kept-births}
use Rattle.sf_session_values.proofs.values.SessionValues.add_kept_births.Goals as goal

pub loop-k-preserved : goal.loop-k-preserved
loop-k-preserved c = births_added (births_kept c.args.since) c.args.self.now.held.locators c.loop-k.k _ _ _ c.loop-k.invariant c.in_ok-add_kept.ensures

pub returns : goal.returns
returns c =
    let locators = c.args.self.now.held.locators in
    let most : length locators ≤ c.loop-k.k = omega (arith, c.len-k-end.ensures.len, ap (length {A = _}) c.locators.ensures, c.loop-k-test.false) in
    all_births_added (births_kept c.args.since) locators c.loop-k.k _ _ c.loop-k.invariant most
    ∙ ap (λ bs. c.args.into.now ++ bs) (sym (kept-births c.args.since locators))
