-- Displaced versions and when they are given up (our own).
use Rattle.std.specs.Prelude.{ℕ, nat_le, List, map, filter}
use Rattle.sf_retention.specs.declared.retention.Note.{Note}
use Rattle.sf_retention.specs.declared.retention.Pair.{Pair}

-- The version that a commit gave a row was displaced by a later commit.
abbrev pub note_of : List ℕ → ℕ → ℕ → Note
note_of row from until = record { row = row; from = from; until = until }

-- The version of which a note speaks.
abbrev pub pair_of : Note → Pair
pair_of note = record { name = note.row; from = note.from }

-- The versions that are due at a floor: those displaced by it at the latest, in the order of their notes.
abbrev pub due_pairs : List Note → ℕ → List Pair
due_pairs notes floor = map {B = Pair} pair_of (filter (λ note. nat_le note.until floor) notes)
