-- Which calls of an object in memory fail, and how many it has had. The rules are our own.
use Rattle.std.specs.Prelude.{ℕ, List, Contains}
use Rattle.sf_outside.specs.Causes.{next_count}
use Rattle.sf_outside.specs.Faults.{Faults, no_faults, faults_after_success, faults_after_fault}

pub record CallCounts : Type 0 where
  -- the numbers of the calls that fail, where the first call has the number 1
  pub failing : List ℕ
  -- the number of calls so far, and those of them that failed
  pub calls : ℕ
  pub faults : Faults

-- Before the first call.
abbrev pub no_calls : List ℕ → CallCounts
no_calls failing = record { failing = failing; calls = 0; faults = no_faults }

-- The next call fails: its number is one of those.
abbrev pub NextFails : CallCounts → Type 0
NextFails c = Contains c.failing (next_count c.calls)

-- After a call that succeeded.
abbrev pub after_success : CallCounts → CallCounts
after_success c = record c { calls = next_count c.calls; faults = faults_after_success c.faults }

-- After a call that failed.
abbrev pub after_fault : CallCounts → CallCounts
after_fault c = record c { calls = next_count c.calls; faults = faults_after_fault c.faults }
