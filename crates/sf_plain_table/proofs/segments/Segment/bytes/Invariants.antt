use Rattle.std.proofs.Common.{◌≡◌, ◌++◌}
use Rattle.std.specs.VecDeque.Iter.{deque_iter_rest}
use Rattle.sf_types.specs.Values.Marks.{bytes_in}
use Rattle.sf_types.specs.Space.Cuts.{Segment, Stretch}
use Rattle.sf_plain_table.proofs.segments.Segment.bytes.Given as goal

abbrev pub invariant-loop-m : goal.invariant-loop-m
invariant-loop-m l = ◌≡◌ {A = Segment} (Stretch (l.bytes.items ++ bytes_in (deque_iter_rest l.m-iterator))) l.self
