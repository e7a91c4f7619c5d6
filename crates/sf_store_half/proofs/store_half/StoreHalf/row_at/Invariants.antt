use Rattle.std.proofs.Common.{◌≡◌, length}
use Rattle.std.specs.Prelude.{drop, slice_get}
use Rattle.sf_types.specs.Table.Versions.{present_values}
use Rattle.sf_store_half.specs.Reads.{last_entries, last_rows}
use Rattle.sf_store_half.proofs.store_half.StoreHalf.row_at.Given as goal

abbrev pub invariant-loop-at : goal.invariant-loop-at
invariant-loop-at l = record {
  rows : slice_get (present_values (drop l.at (last_entries l.self.versions.rows))) l.left ≡ slice_get (last_rows l.self.versions.rows) l.k;
  end : l.at-end ≡ length l.self.versions.rows;
}
