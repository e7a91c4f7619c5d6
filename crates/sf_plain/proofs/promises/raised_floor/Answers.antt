use Rattle.std.proofs.Common.{sym, ◌∙◌}
use Rattle.sf_types.specs.Space.Promises.{fits_at}
use Rattle.sf_plain_table.proofs.MatchLemmas.{next_offset}
use Rattle.sf_plain.proofs.promises.raised_floor.Goals as goal

pub loop-floor-preserved : goal.loop-floor-preserved
loop-floor-preserved c =
    next_offset (fits_at c.args.table.now c.args.of.now) c.loop-floor.floor _ c.loop-floor-test.true (sym c.in_ok-fits.ensures ∙ c.if-fits.false) ∙ c.loop-floor.invariant
