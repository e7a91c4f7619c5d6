use Rattle.std.proofs.Common.{◌≡◌, ◌++◌, drop}
use Rattle.sf_types.specs.Space.Cuts.{settle_contents}
use Rattle.sf_plain_table.proofs.settling.settled_contents.Given as goal

abbrev pub invariant-loop-content : goal.invariant-loop-content
invariant-loop-content l = l.marked.items ++ settle_contents (drop l.content-index l.contents) l.rest ≡ settle_contents l.contents l.births
