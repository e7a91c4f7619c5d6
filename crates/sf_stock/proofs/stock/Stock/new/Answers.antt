use Rattle.sf_stock.proofs.EmptyLemmas.{nothing_kept}
use Rattle.sf_stock.proofs.stock.Stock.new.Goals as goal

pub invariant_of-result : goal.invariant_of-result
invariant_of-result c =
    nothing_kept c.in_ok-new.field-0 c.in_ok-new-2.field-0 c.new-3.result c.new-4.result c.new-5.result c.in_ok-new.ensures.places c.in_ok-new.ensures.holdings c.in_ok-new-2.ensures c.new-3.ensures c.new-4.ensures.places c.new-5.ensures.runs
