use Rattle.std.proofs.Common.{◌∙◌, ap}
use Rattle.sf_lifetimes.specs.Ledgers.{freed_by}
use Rattle.sf_stock.specs.Stocks.{freed_blocks}
use Rattle.sf_stock.proofs.ReadLemmas.{freed_are}
use Rattle.sf_stock.proofs.stock.Stock.give_up.Goals as goal

pub returns-clause-freed : goal.returns-clause-freed
returns-clause-freed c holders =
    let s = c.self.inside in
    ap (λ l. freed_by l holders) c.give_up.ensures.ledger ∙ freed_are s.ledger.held s.index.held s.known.held s.next c.self.invariant.births holders ∙ ap (λ v. freed_blocks v.held holders) c.self.view_is
