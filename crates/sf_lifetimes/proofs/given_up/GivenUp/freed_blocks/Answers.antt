use Rattle.std.proofs.Common.{◌∙◌, ap}
use Rattle.sf_lifetimes.specs.Ledgers.{freed_by}
use Rattle.sf_lifetimes.proofs.TallyLemmas.{freed_is}
use Rattle.sf_lifetimes.proofs.given_up.GivenUp.freed_blocks.Goals as goal

pub returns : goal.returns
returns c =
    let g = c.self.inside in
    c.freed.ensures
    ∙ freed_is g.tally g.places.now.held g.holdings.now.held g.holders.items c.self.invariant.counted c.self.invariant.once c.self.invariant.tallied
    ∙ ap (λ v. freed_by v.ledger v.holders) c.self.view_is
