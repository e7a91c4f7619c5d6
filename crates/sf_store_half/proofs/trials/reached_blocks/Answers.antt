use Rattle.std.proofs.Common.{◌∙◌, arith}
use Rattle.sf_store_half.proofs.TrialLemmas.{freed_within, reached_is}
use Rattle.sf_store_half.proofs.trials.reached_blocks.Goals as goal

pub overflow_sub-left : goal.overflow_sub-left
overflow_sub-left c =
    let facts = freed_within c.args.stock.now.held c.args.given.now.holders c.requires.live in
    let freed = c.freed_blocks.ensures ∙ c.requires.given.freed c.args.given.now.holders in
    omega (arith, facts, freed, c.live_blocks.ensures.live)

pub returns-in-Some : goal.returns-in-Some
returns-in-Some c =
    let freed = c.freed_blocks.ensures ∙ c.requires.given.freed c.args.given.now.holders in
    let facts = freed_within c.args.stock.now.held c.args.given.now.holders c.requires.live in
    let all = reached_is c.args.stock.now.held c.args.given.now.holders c.requires.live c.args.births.now in
    omega (arith, facts, freed, all, c.live_blocks.ensures.live, c.in_ok-kept.ensures, c.in-Some.ensures)
