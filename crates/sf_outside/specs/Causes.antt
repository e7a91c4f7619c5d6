-- When a call of a source or of a sink may answer that it failed. These rules are our own: each object counts its faults,
-- and tells whether its last call failed.
use Rattle.std.specs.Prelude.{◌≡◌, ℕ, ◌+◌, ◌-◌, ◌^◌, ◌≤◌, Bool, IsTrue, min, Result, OnOk, OnErr}

-- A counter after one more. It stays at its last value, 2^64 - 1.
abbrev pub next_count : ℕ → ℕ
next_count n = min (n + 1) (2 ^ 64 - 1)

-- What one call does to its object's count of faults: a call that is done leaves it, and a call that failed raises it by
-- one. No call lowers it.
pub record HasCause {T E : Type 0} (before now : ℕ) (result : Result T E) : Type 0 where
  pub later : before ≤ now
  pub done : OnOk result (now ≡ before)
  pub failed : OnErr result (now ≡ next_count before)

-- Of one or more calls of an object just one failed, and that was the last of them.
pub record EndsAtFault (before now : ℕ) (has_failed : Bool) : Type 0 where
  pub one : now ≡ next_count before
  pub last : IsTrue has_failed
