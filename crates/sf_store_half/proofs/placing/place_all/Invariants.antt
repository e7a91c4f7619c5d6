use Rattle.std.proofs.Common.{◌≡◌, ◌+◌, ◌≤◌}
use Rattle.sf_store_half.specs.Inside.Plans.{AreNewPlaces, items_of, with_all_new}
use Rattle.sf_store_half.proofs.placing.place_all.Given as goal

abbrev pub invariant-loop-content : goal.invariant-loop-content
invariant-loop-content l = record {
  places : AreNewPlaces l.stock.held l.content-iterator.rest.items;
  held : with_all_new l.stock.held l.content-iterator.rest.items ≡ with_all_new l.initial.stock.held l.fn.news.items;
  room : items_of l.content-iterator.rest.items ≤ l.stock.spare;
  spare : l.initial.stock.spare + items_of l.content-iterator.rest.items ≤ l.stock.spare + items_of l.fn.news.items;
}
