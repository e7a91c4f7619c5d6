use Rattle.sf_store_half.proofs.StockReachLemmas.{stocked_are_reached}
use Rattle.sf_store_half.proofs.laws.what_is_stocked_is_in_reach.Goals as goal

pub returns : goal.returns
returns c = stocked_are_reached
