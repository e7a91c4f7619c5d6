use Rattle.std.proofs.Common.{sym, subst}
use Rattle.sf_stock.specs.Stocks.{StockView}
use Rattle.sf_store_half.specs.Inside.Fields.{AreKept}
use Rattle.sf_store_half.specs.contracts.store_half.StoreHalf.{the_view}
use Rattle.sf_store_half.proofs.SettledLemmas.{keeps_shifted}
use Rattle.sf_store_half.proofs.store_half.StoreHalf.shift.Goals as goal

pub invariant_of-self : goal.invariant_of-self
invariant_of-self c =
    let kept = c.self.invariant in
    let f = the_view c.self.inside in
    subst (λ (stock : StockView). AreKept (record f { stock = stock }) c.self.inside.promised) (sym c.shift.ensures.held)
    (record { in_range = kept.in_range; reached = kept.reached; count = kept.count; few = kept.few; half = kept.half; keeps = keeps_shifted f kept.half c.args.shifts kept.keeps })
