use Rattle.sf_types.proofs.BirthLemmas.{IsRising-push}
use Rattle.sf_types.proofs.births.Births.push.Goals as goal

pub invariant_of-self-2 : goal.invariant_of-self-2
invariant_of-self-2 c =
    rw c.in_ok-push.ensures.items (IsRising-push c.self.inside.births.items c.args.birth c.self.invariant (rw c.self.view_is c.requires))
