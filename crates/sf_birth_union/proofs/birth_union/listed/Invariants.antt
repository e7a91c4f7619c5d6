use Rattle.std.proofs.Common.{◌≡◌, take}
use Rattle.sf_birth_union.proofs.birth_union.listed.Given as goal

abbrev pub invariant-loop-birth : goal.invariant-loop-birth
invariant-loop-birth l = l.births ≡ take l.birth-index l.rising
