-- What became of a stock in several calls between two parkings (our own).
use Rattle.std.specs.Prelude.{◌≡◌, ◌<◌, not, List, ◌++◌, All}
use Rattle.std.specs.List.{filter}
use Rattle.std.specs.List.Sorted.{IsPermutation}
use Rattle.sf_stock.specs.Stocks.{Stocked, StockView, is_stocked, places_of}

-- The births that a stock had and those that came since, in their order: those that still have a place, and those that left.
abbrev pub remaining : List Stocked → List Stocked → List Stocked
remaining after all = filter (λ x. is_stocked after x.birth) all

abbrev pub departed : List Stocked → List Stocked → List Stocked
departed after all = filter (λ x. not (is_stocked after x.birth)) all

-- After contents came and holders changed, the births that a stock had and those that came either still have their places, in
-- their order, or have left, each once.
pub record IsSince (before : StockView) (new : List Stocked) (after : StockView) : Type 0 where
  pub remain : after.stocked ≡ remaining after.stocked (before.stocked ++ new)
  pub left : IsPermutation (places_of (departed after.stocked (before.stocked ++ new))) after.left
  pub before_next : All (λ x. x.birth < after.next) (before.stocked ++ new)
