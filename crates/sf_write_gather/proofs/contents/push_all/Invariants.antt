use Rattle.std.proofs.Common.{◌≡◌, ◌++◌}
use Rattle.sf_write_gather.proofs.contents.push_all.Given as goal

abbrev pub invariant-loop-content : goal.invariant-loop-content
invariant-loop-content l = l.contents ++ l.content-iterator.rest.items ≡ l.initial.contents ++ l.fn.more
