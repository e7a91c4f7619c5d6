use Rattle.std.proofs.Common.{◌≡◌, []}
use Rattle.std.specs.Prelude.{replicate}
use Rattle.sf_script.proofs.reading.Draft.new.Given as goal

abbrev pub invariant-loop : goal.invariant-loop
invariant-loop l = l.calls.items ≡ replicate l.counter []
