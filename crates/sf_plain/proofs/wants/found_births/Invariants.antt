use Rattle.std.proofs.Common.{◌≡◌, ◌++◌, drop}
use Rattle.std.specs.Prelude.{filter_map}
use Rattle.sf_types.specs.Space.Promises.{found_birth}
use Rattle.sf_plain.proofs.wants.found_births.Given as goal

abbrev pub invariant-loop-cut : goal.invariant-loop-cut
invariant-loop-cut l = l.union ++ filter_map (found_birth l.contents l.reached) (drop l.cut-index l.of) ≡ filter_map (found_birth l.contents l.reached) l.of
