use Rattle.std.proofs.Common.{◌≡◌, IfOk, sym, ap, subst, ◌∙◌}
use Rattle.sf_own_part.proofs.PartBirthLemmas.{open_commit_births}
use Rattle.sf_own_part.proofs.own_part.OwnPart.births_committed.Goals as goal

pub returns-then-self : goal.returns-then-self
returns-then-self c =
    let p = c.args.self.now.held.part in
    let is_open = ap (λ v. v.held.part.is_open) (sym c.self.view_is) ∙ c.if-self.true in
    subst (λ bs. IfOk c.locator_births.result (λ births. births ≡ bs)) (open_commit_births p is_open) c.locator_births.ensures
