use Rattle.std.proofs.Common.{◌≡◌, take}
use Rattle.sf_types.specs.Space.BlockRuns.{blocks_in, AreRuns}
use Rattle.sf_stock.proofs.joining.joined.Given as goal

-- the runs before this one were joined
abbrev pub invariant-loop-run : goal.invariant-loop-run
invariant-loop-run l = record {
  blocks : blocks_in l.joined.items ≡ blocks_in (take l.run-index l.runs);
  runs : AreRuns l.joined.items;
}
