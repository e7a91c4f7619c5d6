use Rattle.std.proofs.Common.{◌≡◌, ◌≤◌, length, take}
use Rattle.std.specs.Prelude.{filter}
use Rattle.sf_types.specs.Values.Marks.{is_fresh}
use Rattle.sf_plain_table.proofs.value.Value.fresh_count.Given as goal

abbrev pub invariant-loop-m : goal.invariant-loop-m
invariant-loop-m l = record {
  most : l.count ≤ l.m-index;
  count : l.count ≡ length (filter is_fresh (take l.m-index l.m-items));
}
