use Rattle.std.proofs.Common.{◌≡◌, map, take}
use Rattle.std.specs.Map.Iter.{deref_pair}
use Rattle.sf_store_half.specs.Reads.{births_of_rows}
use Rattle.sf_store_half.proofs.reads.births_of_rows.Given as goal

abbrev pub invariant-loop-row : goal.invariant-loop-row
invariant-loop-row l = l.union ≡ births_of_rows (map deref_pair (take l.row-index l.rows))
