use Rattle.std.proofs.Common.{◌≡◌, ◌+◌, ◌++◌, length}
use Rattle.sf_types.specs.Orders.Histories.{call_entries}
use Rattle.sf_book.proofs.entries.push_calls.Given as goal

abbrev pub invariant-loop-call : goal.invariant-loop-call
invariant-loop-call l =
    (l.history.held ++ call_entries l.session l.call-iterator.rest.items ≡ l.initial.history.held ++ call_entries l.fn.session l.fn.calls)
    × (length l.call-iterator.rest.items + l.initial.history.spare ≡ length l.fn.calls + l.history.spare)
