use Rattle.std.proofs.Common.{◌≡◌, ◌+◌, ◌≤◌, ◌++◌, length, take}
use Rattle.std.specs.List.{sum_by}
use Rattle.sf_types.specs.Space.BlockRuns.{blocks_in}
use Rattle.sf_shrink.specs.Plans.{blocks_of_places}
use Rattle.sf_stock.proofs.parts.park_all.Given as goal

-- the places before this one are parked
abbrev pub invariant-loop-place : goal.invariant-loop-place
invariant-loop-place l = record {
  blocks : blocks_in l.parked.held ≡ blocks_in l.fn.parked.held ++ blocks_of_places (take l.place-index l.places);
  runs : l.runs ≡ sum_by (λ place. length place.runs) (take l.place-index l.places);
  spare : l.fn.parked.spare ≤ l.parked.spare + l.runs;
}
