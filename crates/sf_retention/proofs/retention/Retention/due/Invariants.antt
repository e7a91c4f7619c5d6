use Rattle.std.proofs.Common.{◌≡◌, ◌++◌}
use Rattle.std.specs.VecDeque.Iter.{deque_iter_rest}
use Rattle.sf_retention.specs.Notes.{due_pairs}
use Rattle.sf_retention.proofs.NoteLemmas.{IsInOrder}
use Rattle.sf_retention.proofs.retention.Retention.due.Given as goal

-- what was listed and what is due among the notes that are left
abbrev pub invariant-loop-note : goal.invariant-loop-note
invariant-loop-note l = record {
  due : l.pairs ++ due_pairs (deque_iter_rest l.note-iterator) l.floor ≡ due_pairs l.self.held l.floor;
  rising : IsInOrder (deque_iter_rest l.note-iterator);
}
