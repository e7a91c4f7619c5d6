use Rattle.std.proofs.Common.{◌≡◌, drop}
use Rattle.std.specs.Prelude.{is_some}
use Rattle.sf_types.specs.Table.Versions.{last_change}
use Rattle.sf_plain_table.proofs.reach.is_named.Given as goal

abbrev pub invariant-loop-rows : goal.invariant-loop-rows
invariant-loop-rows l = is_some (last_change (drop l.rows-index l.commits) l.row) ≡ is_some (last_change l.commits l.row)
