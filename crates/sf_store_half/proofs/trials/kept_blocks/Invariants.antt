use Rattle.std.proofs.Common.{◌≡◌, take}
use Rattle.std.specs.Prelude.{sum_by, not}
use Rattle.sf_lifetimes.specs.Ledgers.{is_live, without_holders}
use Rattle.sf_store_half.proofs.BlockLemmas.{weight_of}
use Rattle.sf_store_half.proofs.trials.kept_blocks.Given as goal

abbrev pub invariant-loop-birth : goal.invariant-loop-birth
invariant-loop-birth l =
    l.kept ≡ sum_by (weight_of (λ b. not (is_live (without_holders l.given.ledger.holdings l.given.holders) b)) l.stock.held.stocked) (take l.birth-index l.birth-items)
