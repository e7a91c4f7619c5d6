use Rattle.std.proofs.Common.{◌≡◌, ◌≤◌, drop}
use Rattle.std.specs.VecDeque.{deque_capacity, deque_len}
use Rattle.sf_retention.proofs.retention.Retention.done.Given as goal

-- so many notes have gone, and the capacity stays
abbrev pub invariant-loop : goal.invariant-loop
invariant-loop l = record {
  items : l.self-inside.notes.items ≡ drop l.counter l.initial.self-inside.notes.items;
  capacity : deque_capacity l.self-inside.notes ≡ deque_capacity l.initial.self-inside.notes;
  fewer : deque_len l.self-inside.notes ≤ deque_len l.initial.self-inside.notes;
}
