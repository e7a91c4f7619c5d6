use Rattle.std.proofs.Common.{◌≡◌, true, take}
use Rattle.std.specs.Prelude.{sum_by}
use Rattle.sf_store_half.proofs.BlockLemmas.{weight_of}
use Rattle.sf_store_half.proofs.reads.blocks_of_births.Given as goal

abbrev pub invariant-loop-birth : goal.invariant-loop-birth
invariant-loop-birth l = l.sum ≡ sum_by (weight_of (λ b. true) l.stock.held.stocked) (take l.birth-index l.birth-items)
