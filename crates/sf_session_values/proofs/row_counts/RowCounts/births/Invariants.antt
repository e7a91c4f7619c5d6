use Rattle.std.proofs.Common.{◌≡◌, ◌++◌}
use Rattle.sf_chunk_map.specs.Inside.Counts.{births_with_bytes}
use Rattle.sf_session_values.proofs.row_counts.RowCounts.births.Given as goal

abbrev pub invariant-loop-birth : goal.invariant-loop-birth
invariant-loop-birth l = l.births ++ births_with_bytes l.birth-iterator ≡ births_with_bytes l.self
