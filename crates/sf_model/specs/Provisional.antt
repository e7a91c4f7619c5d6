-- What `Plain` follows until the store that plays scripts whole takes its place in the program (our own).
use Rattle.std.specs.Prelude.{ℕ, Bool, true, false}
use Rattle.sf_types.specs.declared.call.Call.{Call}
use Rattle.sf_types.specs.declared.call.Call.TheVariants as call
use Rattle.sf_types.specs.Table.Parts.{Table}

-- The calls that `Plain` takes.
abbrev pub has_step : Call → Bool
has_step (call.Insert row) = true
has_step (call.Lock to row) = true
has_step (call.WriteAppend at bytes) = true
has_step (call.Length at) = true
has_step (call.Read at amount offset) = true
has_step call.Commit = true
has_step call.End = true
has_step _ = false

-- In `Plain` no call is due: no contents are given out, and no promise stands.
abbrev pub never_due : Table → ℕ → Call → Bool
never_due t s c = false
