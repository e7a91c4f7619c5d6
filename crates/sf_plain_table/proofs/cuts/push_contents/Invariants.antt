use Rattle.std.proofs.Common.{◌≡◌, ◌-◌, ◌++◌}
use Rattle.sf_types.specs.declared.limits.TheConstants.{CONTENT_BYTES}
use Rattle.sf_types.specs.Space.Contents.{slices_of}
use Rattle.sf_plain_table.proofs.cuts.push_contents.Given as goal

abbrev pub invariant-loop : goal.invariant-loop
invariant-loop l = l.contents.items ++ slices_of CONTENT_BYTES (l.count - l.counter) l.rest ≡ l.initial.contents.items ++ slices_of CONTENT_BYTES l.count l.stretch
