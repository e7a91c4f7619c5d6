use Rattle.std.proofs.Common.{◌≡◌, map, length, ◌++◌}
use Rattle.std.specs.Prelude.{drop}
use Rattle.std.specs.Map.Iter.{deref_pair}
use Rattle.sf_types.specs.Table.Versions.{present_values}
use Rattle.sf_store_half.specs.Reads.{last_entries, last_rows}
use Rattle.sf_store_half.proofs.store_half.StoreHalf.present_rows.Given as goal

abbrev pub invariant-loop-at : goal.invariant-loop-at
invariant-loop-at l = record {
  rows : map deref_pair l.rows.items ++ present_values (drop l.at (last_entries l.self.versions.rows)) ≡ last_rows l.self.versions.rows;
  end : l.at-end ≡ length l.self.versions.rows;
}
