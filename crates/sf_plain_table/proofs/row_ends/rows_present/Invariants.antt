use Rattle.std.proofs.Common.{◌≡◌, ◌++◌}
use Rattle.sf_types.specs.Table.Versions.{present_values}
use Rattle.sf_types.specs.Orders.RowEnds.{row_ends}
use Rattle.sf_plain_table.proofs.row_ends.rows_present.Given as goal

abbrev pub invariant-loop-name : goal.invariant-loop-name
invariant-loop-name l = l.ends ++ row_ends (present_values l.name-iterator) ≡ row_ends (present_values l.rows)
