use Rattle.std.proofs.Common.{◌≡◌, drop}
use Rattle.std.specs.List.{list_any}
use Rattle.sf_types.specs.Space.Promises.{is_equal_sharing}
use Rattle.sf_plain.proofs.wants.is_repeated.Given as goal

abbrev pub invariant-loop-other : goal.invariant-loop-other
invariant-loop-other l = list_any (is_equal_sharing l.cut) (drop l.other-index l.earlier) ≡ list_any (is_equal_sharing l.cut) l.earlier
