use Rattle.std.proofs.Common.{◌≡◌, ◌++◌}
use Rattle.sf_types.specs.Table.Sessions.{locked_rows}
use Rattle.sf_plain_table.proofs.locks.Locks.rows_of.Given as goal

abbrev pub invariant-loop-row : goal.invariant-loop-row
invariant-loop-row l = l.rows.items ++ locked_rows l.row-iterator l.session ≡ locked_rows l.self l.session
