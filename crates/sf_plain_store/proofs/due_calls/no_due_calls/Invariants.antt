use Rattle.std.proofs.Common.{◌≡◌, replicate}
use Rattle.sf_plain_store.specs.Inside.DueCalls.{no_due_call}
use Rattle.sf_plain_store.proofs.due_calls.no_due_calls.Given as goal

-- so many due calls so far
abbrev pub invariant-loop : goal.invariant-loop
invariant-loop l = l.due_calls.items ≡ replicate l.counter no_due_call
