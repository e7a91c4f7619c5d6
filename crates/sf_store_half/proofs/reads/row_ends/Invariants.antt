use Rattle.std.proofs.Common.{◌≡◌, length, map, take}
use Rattle.std.specs.Map.Iter.{deref_pair}
use Rattle.sf_types.specs.Orders.RowEnds.{row_ends}
use Rattle.sf_store_half.proofs.reads.row_ends.Given as goal

abbrev pub invariant-loop-row : goal.invariant-loop-row
invariant-loop-row l = record {
  ends : l.ends ≡ row_ends (map deref_pair (take l.row-index l.rows));
  buffer : length l.buffer ≡ length l.fn.buffer;
}
