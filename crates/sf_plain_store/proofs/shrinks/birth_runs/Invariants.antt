use Rattle.std.proofs.Common.{◌≡◌, map}
use Rattle.sf_types.specs.declared.birth_runs.BirthRuns.{BirthRuns}
use Rattle.sf_plain_store.specs.Inside.Places.{runs_of_place}
use Rattle.sf_plain_store.proofs.shrinks.birth_runs.Given as goal

-- those of the places before this one
abbrev pub invariant-loop-place : goal.invariant-loop-place
invariant-loop-place l = l.births ≡ map {B = BirthRuns} runs_of_place l.yielded
