use Rattle.std.proofs.Common.{◌≡◌, ◌+◌, ◌-◌, ◌≤◌, length}
use Rattle.sf_types.specs.Values.Marks.{strip, size_of}
use Rattle.memchr.specs.Find.{OccursAt, Nowhere}
use Rattle.sf_fragment_ops.proofs.search.first_place.Given as goal

abbrev pub invariant-loop-at : goal.invariant-loop-at
invariant-loop-at l = record {
  least : l.start ≤ l.at;
  most : l.at ≤ size_of l.value;
  window : length l.window ≡ length l.initial.window;
  before : Nowhere (OccursAt (strip l.value) l.finder) l.start l.at;
}

abbrev pub decreases-loop-at : goal.decreases-loop-at
decreases-loop-at l = size_of l.value + 1 - l.at
