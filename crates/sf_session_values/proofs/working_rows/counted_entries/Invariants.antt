use Rattle.std.proofs.Common.{◌≡◌, ◌++◌, map}
use Rattle.sf_session_values.specs.Inside.Counting.{AreNumbers, counted_births, counted_change}
use Rattle.sf_session_values.proofs.working_rows.counted_entries.Given as goal

abbrev pub invariant-loop-change : goal.invariant-loop-change
invariant-loop-change l = record {
  entries : l.entries.items ++ map counted_change l.change-iterator.rest.items ≡ map counted_change l.fn.changes.items;
  numbers : AreNumbers l.counts (counted_births l.entries.items);
}
