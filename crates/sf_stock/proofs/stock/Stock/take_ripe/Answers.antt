use Rattle.std.proofs.Common.{length, ap, arith}
use Rattle.sf_stock.proofs.ParkLemmas.{stock_ripe}
use Rattle.sf_stock.proofs.stock.Stock.take_ripe.Goals as goal

pub take_batch-requires : goal.take_batch-requires
take_batch-requires c = omega (arith, c.requires, c.run_count.ensures.count, c.run_count.ensures.few, ap (λ v. length v.held.parked) c.self.view_is)

pub invariant_of-self : goal.invariant_of-self
invariant_of-self c =
    let s = c.self.inside in
    stock_ripe s.ledger s.index s.known s.left s.parked c.take_batch.new.self s.next s.runs s.room c.take_batch.result c.self.invariant c.take_batch.ensures.left_blocks c.take_batch.ensures.spare

pub returns-clause-into_spare : goal.returns-clause-into_spare
returns-clause-into_spare c =
    let s = c.self.inside in
    omega (arith, c.take_batch.ensures.into_spare, c.take_batch.ensures.few, c.take_batch.ensures.count, c.run_count.ensures.count, c.run_count.ensures.few)
