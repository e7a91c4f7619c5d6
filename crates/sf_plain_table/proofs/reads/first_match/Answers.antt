use Rattle.std.proofs.Common.{sym, ◌∙◌}
use Rattle.sf_types.specs.Calls.LocatorCalls.{matches_at}
use Rattle.sf_plain_table.proofs.MatchLemmas.{next_offset}
use Rattle.sf_plain_table.proofs.reads.first_match.Goals as goal

pub loop-at-preserved : goal.loop-at-preserved
loop-at-preserved c =
    next_offset (matches_at c.args.bytes.now c.args.pattern.now) c.loop-at.at _ c.loop-at-test.true (sym c.matches_at.ensures ∙ c.if-matches_at.false) ∙ c.loop-at.invariant
