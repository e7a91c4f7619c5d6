use Rattle.sf_birth_union.proofs.UnionLemmas.{above_taken}
use Rattle.sf_birth_union.proofs.birth_union.listed.Goals as goal

pub push-requires : goal.push-requires
push-requires c = rw c.loop-birth.invariant (above_taken c.args.rising.now c.loop-birth.birth-index c.requires c.loop-birth-test.true)
