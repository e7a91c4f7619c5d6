use Rattle.std.proofs.Common.{◌≡◌, replicate}
use Rattle.sf_types.specs.Table.Parts.{new_session}
use Rattle.sf_model.proofs.plain.Plain.new.Given as goal

abbrev pub invariant-loop : goal.invariant-loop
invariant-loop l = l.parts.items ≡ replicate l.counter new_session
