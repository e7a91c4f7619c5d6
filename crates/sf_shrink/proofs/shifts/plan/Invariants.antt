use Rattle.std.proofs.Common.{◌≡◌, ◌++◌, length, take, drop}
use Rattle.sf_shrink.specs.Plans.{planned, planned_shifts, blocks_of_places}
use Rattle.sf_shrink.proofs.shifts.plan.Given as goal

-- the shifts that were made, and those of the places that are left
abbrev pub invariant-loop-place : goal.invariant-loop-place
invariant-loop-place l = record {
  shifts : l.shifts ++ planned_shifts l.start (drop l.place-index l.place-items) ≡ planned l.place-items;
  start : l.start ≡ length (blocks_of_places (take l.place-index l.place-items));
}
