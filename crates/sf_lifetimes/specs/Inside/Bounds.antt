-- What is freed is live (our own).
use Rattle.std.specs.Prelude.{ℕ, ◌≤◌, Option, Some, None}
use Rattle.std.specs.FinMap as fin
use Rattle.sf_lifetimes.specs.declared.tally.Tally.{Tally}
use Rattle.sf_lifetimes.specs.declared.counted.Counted.{Counted}
use Rattle.sf_lifetimes.specs.Inside.Counts.{CountedMap, live_in}
use Rattle.sf_lifetimes.specs.Inside.Tallies.{Tallies, freed_in}

-- The blocks that a birth frees, and those that it has live.
abbrev pub freed_at : Option Tally → ℕ
freed_at None = 0
freed_at (Some t) = freed_in t

abbrev pub live_at : Option Counted → ℕ
live_at None = 0
live_at (Some c) = live_in c

-- No birth frees more blocks than it has live.
abbrev pub IsBounded : Tallies → CountedMap → Type 0
IsBounded tallies m = (q : ℕ) → freed_at (fin.get tallies q) ≤ live_at (fin.get m q)
