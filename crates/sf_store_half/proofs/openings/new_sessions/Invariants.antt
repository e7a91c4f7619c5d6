use Rattle.std.proofs.Common.{◌≡◌, replicate}
use Rattle.sf_types.specs.Halves.Asks.{new_kept}
use Rattle.sf_store_half.specs.Fields.{session_field}
use Rattle.sf_store_half.proofs.openings.new_sessions.Given as goal

abbrev pub invariant-loop : goal.invariant-loop
invariant-loop l = l.fields.items ≡ replicate l.counter (session_field new_kept)
