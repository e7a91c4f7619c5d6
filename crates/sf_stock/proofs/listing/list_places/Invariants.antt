use Rattle.std.proofs.Common.{◌≡◌, ◌++◌, map, drop}
use Rattle.std.specs.Map.Iter.{deref_pair}
use Rattle.sf_stock.proofs.ListLemmas.{shown}
use Rattle.sf_stock.proofs.listing.list_places.Given as goal

-- the places that were put, and those that are left
abbrev pub invariant-loop-entry : goal.invariant-loop-entry
invariant-loop-entry l = l.places ++ shown l.ledger.held (map deref_pair (drop l.entry-index l.entry-items)) ≡ shown l.ledger.held l.known.held
