-- What a `MemSource` is, and what a read of it gives (our own).
use Rattle.std.specs.Prelude.{ℕ, List, length, min, drop, Result, Ok, Err}
use Rattle.sf_outside.specs.CallCounts.{CallCounts, after_success, after_fault}

pub record SourceState : Type 0 where
  -- the bytes that are left
  pub left : List ℕ
  -- the most bytes that a call moves
  pub piece : ℕ
  pub counts : CallCounts

-- how many bytes the next read into a buffer gives, unless it fails
abbrev pub read_amount : SourceState → List ℕ → ℕ
read_amount s into = min s.piece (min (length into) (length s.left))

-- after a read: it took the bytes that it gave, and was counted
abbrev pub source_after : {E : Type 0} → SourceState → Result ℕ E → SourceState
source_after s (Ok n) = record s { left = drop n s.left; counts = after_success s.counts }
source_after s (Err e) = record s { counts = after_fault s.counts }
