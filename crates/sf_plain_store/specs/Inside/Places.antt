-- Places as births with their runs (our own).
use Rattle.sf_types.specs.declared.birth_runs.BirthRuns.{BirthRuns}
use Rattle.sf_types.specs.declared.place.Place.{Place}

-- The runs of a place.
abbrev pub runs_of_place : Place → BirthRuns
runs_of_place place = record { birth = place.birth; runs = place.runs }
