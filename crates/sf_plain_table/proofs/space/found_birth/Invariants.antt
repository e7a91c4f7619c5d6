use Rattle.std.proofs.Common.{◌≡◌, drop}
use Rattle.std.specs.Prelude.{find}
use Rattle.sf_types.specs.Space.Promises.{is_shared_as}
use Rattle.sf_plain_table.proofs.space.found_birth.Given as goal

abbrev pub invariant-loop-birth : goal.invariant-loop-birth
invariant-loop-birth l = find (is_shared_as l.contents l.cut.bytes) (drop l.birth-index l.reached) ≡ find (is_shared_as l.contents l.cut.bytes) l.reached
