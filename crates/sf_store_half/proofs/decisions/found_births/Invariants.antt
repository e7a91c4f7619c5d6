use Rattle.std.proofs.Common.{◌≡◌, ◌++◌, drop}
use Rattle.std.specs.Prelude.{filter_map}
use Rattle.sf_store_half.specs.Inside.Trials.{found_among, is_reached}
use Rattle.sf_store_half.proofs.decisions.found_births.Given as goal

-- the births that were found, and those of the cuts that are left
abbrev pub invariant-loop-cut : goal.invariant-loop-cut
invariant-loop-cut l =
    l.found ++ filter_map (found_among (is_reached l.given.ledger.holdings l.given.holders l.births)) (drop l.cut-index l.cuts) ≡ filter_map (found_among (is_reached l.given.ledger.holdings l.given.holders l.births)) l.cuts
