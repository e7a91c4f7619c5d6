use Rattle.sf_lifetimes.proofs.PlaceLemmas.{stands_there, stands_behind}
use Rattle.sf_lifetimes.proofs.rising.stands_at.Goals as goal

pub returns-then-at-births : goal.returns-then-at-births
returns-then-at-births c = stands_there c.args.births.now c.args.at c.args.birth c.requires.rising c.requires.place c.if-at-births.true

pub returns-else-at-births : goal.returns-else-at-births
returns-else-at-births c = stands_behind c.args.births.now c.args.at c.args.birth c.requires.rising c.requires.place c.if-at-births.false
