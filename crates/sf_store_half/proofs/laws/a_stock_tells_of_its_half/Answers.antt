use Rattle.sf_store_half.proofs.StockLemmas.{use_by_stock, found_by_stock}
use Rattle.sf_store_half.proofs.StockReachLemmas.{stocked_are_reached}
use Rattle.sf_store_half.proofs.laws.a_stock_tells_of_its_half.Goals as goal

pub returns : goal.returns
returns c = record {
  in_use = λ f h keeps sound. use_by_stock f h (stocked_are_reached f h keeps sound) keeps sound;
  found = λ f h cut keeps sound sharing. found_by_stock f h cut (stocked_are_reached f h keeps sound) keeps sharing;
}
