-- What an object of this crate keeps of its faults. The rules are our own.
use Rattle.std.specs.Prelude.{ℕ, Bool, true, false}
use Rattle.sf_outside.specs.Causes.{next_count}

pub record Faults : Type 0 where
  -- how many calls failed; the count stays at 2^64 - 1
  pub count : ℕ
  -- whether the last call failed
  pub has_failed : Bool

-- No call was made yet.
abbrev pub no_faults : Faults
no_faults = record { count = 0; has_failed = false }

-- After one more call, which was done.
abbrev pub faults_after_success : Faults → Faults
faults_after_success f = record f { has_failed = false }

-- After one more call, which failed.
abbrev pub faults_after_fault : Faults → Faults
faults_after_fault f = record { count = next_count f.count; has_failed = true }
