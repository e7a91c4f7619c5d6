use Rattle.std.proofs.Common.{◌≡◌, ◌≤◌}
use Rattle.sf_store_half.specs.Inside.Floors.{AreDisplaced, stock_without, versions_without}
use Rattle.sf_store_half.proofs.floors.give_up.Given as goal

abbrev pub invariant-loop-pair : goal.invariant-loop-pair
invariant-loop-pair l = record {
  displaced : AreDisplaced l.versions.held l.pair-iterator.rest.items;
  versions : versions_without l.versions.held l.pair-iterator.rest.items ≡ versions_without l.initial.versions.held l.fn.due;
  stock : stock_without l.stock.held l.pair-iterator.rest.items ≡ stock_without l.initial.stock.held l.fn.due;
  versions_room : l.initial.versions.spare ≤ l.versions.spare;
  stock_room : l.initial.stock.spare ≤ l.stock.spare;
}
