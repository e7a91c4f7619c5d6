use Rattle.std.proofs.Common.{◌≡◌, ◌≤◌, ◌++◌, length}
use Rattle.std.specs.List.{AllByRecursion as Each}
use Rattle.sf_store_half.proofs.commits.take_notes.Given as goal

abbrev pub invariant-loop-note : goal.invariant-loop-note
invariant-loop-note l = record {
  notes : l.notes.held ++ l.note-iterator.rest.items ≡ l.initial.notes.held ++ l.fn.displaced;
  until : Each (λ note. note.until ≤ l.number) l.notes.held;
  left : Each (λ note. note.until ≡ l.number) l.note-iterator.rest.items;
  room : length l.note-iterator.rest.items ≤ l.notes.spare;
}
