use Rattle.std.proofs.Common.{◌≡◌, ◌++◌, map, drop}
use Rattle.std.specs.Map.Iter.{deref_pair}
use Rattle.std.specs.FinMap as fin
use Rattle.sf_lifetimes.specs.Inside.Counted.{live_places_in}
use Rattle.sf_lifetimes.proofs.ListingLemmas.{to_place, listed}
use Rattle.sf_lifetimes.proofs.place_map.PlaceMap.places.Given as goal

-- the places that were put, and those that are left
abbrev pub invariant-loop-entry : goal.invariant-loop-entry
invariant-loop-entry l = l.places ++ listed (map deref_pair (drop l.entry-index l.entry-items)) ≡ map to_place (fin.entries (live_places_in l.self.held))
