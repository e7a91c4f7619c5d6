-- What the writing of an output leaves (our own).
use Rattle.std.specs.Prelude.{ℕ, ◌≤◌, List, length, take, Option}
use Rattle.sf_outside.specs.Sink.{GrowsBy}

-- A front of the output was taken.
abbrev pub GrowsByFront : Option (List ℕ) → Option (List ℕ) → List ℕ → Type 0
GrowsByFront before after text = (n : ℕ) × (n ≤ length text) × GrowsBy before after (take n text)
