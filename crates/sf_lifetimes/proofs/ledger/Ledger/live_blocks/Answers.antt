use Rattle.std.proofs.Common.{◌∙◌, ap}
use Rattle.sf_lifetimes.specs.Ledgers.{live_blocks}
use Rattle.sf_lifetimes.proofs.LedgerLemmas.{live_sum_is}
use Rattle.sf_lifetimes.proofs.ledger.Ledger.live_blocks.Goals as goal

pub returns-clause-live : goal.returns-clause-live
returns-clause-live c = c.live_blocks.ensures.live ∙ live_sum_is c.self.inside.places.held c.self.inside.holdings.held c.self.invariant.counted ∙ ap (λ v. live_blocks v.held) c.self.view_is
