use Rattle.std.proofs.Common.{◌≡◌, arith}
use Rattle.sf_script.proofs.DraftLemmas.{new_is_draft}
use Rattle.sf_script.proofs.reading.Draft.new.Goals as goal

pub invariant_of-result : goal.invariant_of-result
invariant_of-result c =
    let whole : c.loop.counter ≡ c.args.sessions = omega arith in
    rw (c.loop.invariant, whole, c.new-2.ensures.items) (new_is_draft c.args.options c.args.sessions c.requires.range c.requires.low c.requires.high)
