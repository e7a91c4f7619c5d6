use Rattle.std.proofs.Common.{arith}
use Rattle.sf_dispensers.proofs.RunTimesLemmas.{cuts_read}
use Rattle.sf_dispensers.proofs.dispenser.cut_front.Goals as goal

pub returns-clause-cut : goal.returns-clause-cut
returns-clause-cut c = cuts_read c.args.runs.now.items 0 c.args.most c.index-front.result.now (omega (arith, c.requires.some)) c.index-front.ensures (omega (arith, c.if-from-most.false, c.from.ensures))
