use Rattle.std.proofs.Common.{take}
use Rattle.sf_dedup.specs.Inside.Filing.{NoneHas}
use Rattle.sf_dedup.proofs.index.Index.find_among.Given as goal

-- none of the births before this one has the bytes
abbrev pub invariant-loop-birth : goal.invariant-loop-birth
invariant-loop-birth l = NoneHas l.self.held (take l.birth-index l.births) l.content
