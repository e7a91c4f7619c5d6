use Rattle.std.proofs.Common.{◌≡◌, ◌≤◌, ◌+◌, length}
use Rattle.sf_store_half.specs.Inside.Commits.{CanHold, birth_count, stock_with}
use Rattle.sf_store_half.proofs.commits.hold_births.Given as goal

abbrev pub invariant-loop-own : goal.invariant-loop-own
invariant-loop-own l = record {
  can : CanHold l.stock.held l.number l.own-iterator.rest.items l.kept;
  room : birth_count l.own-iterator.rest.items + length l.kept ≤ l.stock.spare;
  held : stock_with l.stock.held l.number l.own-iterator.rest.items ≡ stock_with l.initial.stock.held l.number l.fn.held;
}
