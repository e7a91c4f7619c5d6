use Rattle.std.proofs.Common.{refl, arith, ◌+◌, ◌≡◌}
use Rattle.sf_types.specs.declared.run.Run.{Run}
use Rattle.sf_dispensers.proofs.RunTimesLemmas.{joined_is, joined_turned}
use Rattle.sf_dispensers.proofs.neighbours.joint_run.Goals as goal

pub returns-then-precedes-clause-both : goal.returns-then-precedes-clause-both
returns-then-precedes-clause-both c = joined_is c.args.run c.args.other (record { first = c.args.run.first; blocks = c.in_ok-blocks.blocks }) (c.if-precedes.ensures.0 refl) refl c.in_ok-blocks.ensures.1

pub returns-then-precedes-2-clause-both : goal.returns-then-precedes-2-clause-both
returns-then-precedes-2-clause-both c =
    let both : Run = record { first = c.args.other.first; blocks = c.in_ok-blocks.blocks } in
    let turned : c.in_ok-blocks.blocks ≡ c.args.other.blocks + c.args.run.blocks = omega (arith, c.in_ok-blocks.ensures.1) in
    joined_turned c.args.run c.args.other both (joined_is c.args.other c.args.run both (c.if-precedes-2.ensures.0 refl) refl turned)
