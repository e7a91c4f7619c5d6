use Rattle.std.proofs.Common.{◌≡◌, ◌++◌}
use Rattle.std.specs.VecDeque.Iter.{deque_iter_rest}
use Rattle.sf_types.specs.Space.Cuts.{Segment, Kept}
use Rattle.sf_plain_table.proofs.segments.Segment.marked.Given as goal

abbrev pub invariant-loop-m : goal.invariant-loop-m
invariant-loop-m l = ◌≡◌ {A = Segment} (Kept (l.bytes.items ++ deque_iter_rest l.m-iterator)) l.self
