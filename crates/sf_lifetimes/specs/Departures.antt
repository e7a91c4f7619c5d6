-- The order in which the blocks of contents leave that nobody holds any more (our own, after VLDB 2008).
use Rattle.std.specs.Prelude.{ℕ, slice_get}
use Rattle.std.specs.Option.{option_map_or}
use Rattle.sf_types.specs.declared.birth_runs.BirthRuns.{BirthRuns}

-- The block with which a place begins, 0 where it has no runs.
abbrev pub first_of : BirthRuns → ℕ
first_of place = option_map_or (λ run. run.first) (slice_get place.runs 0) 0
