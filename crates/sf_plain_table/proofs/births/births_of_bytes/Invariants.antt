use Rattle.std.proofs.Common.{◌≡◌, ◌++◌, drop}
use Rattle.std.specs.Prelude.{filter_map}
use Rattle.sf_types.specs.Values.Marks.{birth_of_mark}
use Rattle.sf_plain_table.proofs.births.births_of_bytes.Given as goal

abbrev pub invariant-loop-m : goal.invariant-loop-m
invariant-loop-m l = l.births.items ++ filter_map (λ m. birth_of_mark m.mark) (drop l.m-index l.bytes) ≡ filter_map (λ m. birth_of_mark m.mark) l.bytes
