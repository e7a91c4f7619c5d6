use Rattle.std.proofs.Common.{◌≡◌, ◌-◌, ◌++◌, length, drop}
use Rattle.sf_versions.specs.Asks.{cuts_with}
use Rattle.sf_store_half.proofs.printed_cuts.printed_cuts.Given as goal

abbrev pub invariant-loop-content : goal.invariant-loop-content
invariant-loop-content l = l.cuts.items ++ drop l.at (cuts_with l.options l.contents l.choices) ≡ cuts_with l.options l.contents l.choices

abbrev pub decreases-loop-content : goal.decreases-loop-content
decreases-loop-content l = length l.contents - l.at
