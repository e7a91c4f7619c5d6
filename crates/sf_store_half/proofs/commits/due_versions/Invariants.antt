use Rattle.std.proofs.Common.{◌≡◌, ◌++◌, drop}
use Rattle.sf_retention.specs.Notes.{due_pairs}
use Rattle.sf_store_half.proofs.commits.due_versions.Given as goal

abbrev pub invariant-loop-note : goal.invariant-loop-note
invariant-loop-note l = (l.due ++ due_pairs (drop l.note-index l.displaced) l.floor ≡ due_pairs (l.notes.held ++ l.displaced) l.floor)
