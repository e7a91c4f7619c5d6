use Rattle.std.proofs.Common.{subst}
use Rattle.sf_stock.specs.Stocks.{IsSound}
use Rattle.sf_stock.proofs.SoundLemmas.{sound}
use Rattle.sf_stock.proofs.stock.Stock.next_birth.Goals as goal

pub returns-clause-sound : goal.returns-clause-sound
returns-clause-sound c =
    let s = c.self.inside in
    subst (λ v. IsSound v.held) c.self.view_is (sound s.ledger.held s.index.held s.known.held s.left.held s.parked.held s.next c.self.invariant.births c.len.ensures.distinct c.self.invariant.blocks)
