use Rattle.std.proofs.Common.{◌≡◌, List, map, subst}
use Rattle.std.specs.Prelude.{IfOk}
use Rattle.sf_stock.specs.Stocks.{Stocked, listed_place}
use Rattle.sf_store_half.specs.Fields.{Fields}
use Rattle.sf_store_half.proofs.FieldLemmas.{live_are_all}
use Rattle.sf_store_half.proofs.store_half.StoreHalf.places.Goals as goal

pub returns : goal.returns
returns c =
    let stock = c.self.inside.stock.held in
    subst (λ (f : Fields). IfOk c.places.result (λ places. places ≡ map listed_place f.stock.stocked)) c.self.view_is
    (subst (λ (xs : List Stocked). IfOk c.places.result (λ places. places ≡ map listed_place xs))
    (live_are_all stock.holdings stock.stocked c.self.invariant.keeps.live) c.places.ensures)
