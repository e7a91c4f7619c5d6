use Rattle.std.proofs.Common.{◌≡◌, take}
use Rattle.std.specs.Option.{option_copied}
use Rattle.sf_types.specs.Table.Versions.{value_or_absent, last_change}
use Rattle.sf_plain_table.proofs.versions.value_after.Given as goal

abbrev pub invariant-loop-rows : goal.invariant-loop-rows
invariant-loop-rows l = option_copied l.value ≡ value_or_absent (last_change (take l.rows-index l.commits) l.row)
