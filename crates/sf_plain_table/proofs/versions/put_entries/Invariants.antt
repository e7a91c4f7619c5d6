use Rattle.std.proofs.Common.{◌≡◌, vec_len}
use Rattle.sf_types.specs.Table.Versions.{overlay}
use Rattle.sf_plain_table.proofs.versions.put_entries.Given as goal

abbrev pub invariant-loop-name : goal.invariant-loop-name
invariant-loop-name l = overlay l.merged l.left.items ≡ overlay l.initial.merged l.initial.left.items

abbrev pub decreases-loop-name : goal.decreases-loop-name
decreases-loop-name l = vec_len l.left
