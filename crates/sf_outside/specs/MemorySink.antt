-- What a `MemSink` is, and what a write to it takes (our own).
use Rattle.std.specs.Prelude.{ℕ, List, length, min, take, Result, Ok, Err}
use Rattle.sf_outside.specs.CallCounts.{CallCounts, after_success, after_fault}
use Rattle.sf_outside.specs.Kept.{Kept, kept_with}

pub record SinkState : Type 0 where
  pub kept : Kept
  -- the most bytes that a call moves
  pub piece : ℕ
  pub counts : CallCounts

-- how many bytes the next write of a piece takes, unless it fails
abbrev pub write_amount : SinkState → List ℕ → ℕ
write_amount s piece = min s.piece (length piece)

-- after a write of a piece: it took the first n bytes, and was counted
abbrev pub sink_after : {E : Type 0} → SinkState → List ℕ → Result ℕ E → SinkState
sink_after s piece (Ok n) = record s { kept = kept_with s.kept (take n piece); counts = after_success s.counts }
sink_after s piece (Err e) = record s { counts = after_fault s.counts }
