use Rattle.std.proofs.Common.{◌∙◌, ap}
use Rattle.sf_stock.specs.Stocks.{block_count, live_of}
use Rattle.sf_stock.proofs.ReadLemmas.{live_are}
use Rattle.sf_stock.proofs.stock.Stock.live_blocks.Goals as goal

pub returns-clause-live : goal.returns-clause-live
returns-clause-live c =
    let s = c.self.inside in
    c.live_blocks.ensures.live ∙ live_are s.ledger.held s.index.held s.known.held s.next c.self.invariant.births ∙ ap (λ v. block_count (live_of v.held)) c.self.view_is
