use Rattle.std.proofs.Common.{◌≡◌, take}
use Rattle.sf_types.specs.Space.Use.{blocks_of_births}
use Rattle.sf_plain_table.proofs.space.blocks_of_births.Given as goal

abbrev pub invariant-loop-birth : goal.invariant-loop-birth
invariant-loop-birth l = l.blocks ≡ blocks_of_births l.contents (take l.birth-index l.births)
