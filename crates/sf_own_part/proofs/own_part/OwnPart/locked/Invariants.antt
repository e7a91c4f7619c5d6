use Rattle.std.proofs.Common.{◌≡◌, take}
use Rattle.std.specs.Map.{keys_of}
use Rattle.sf_own_part.proofs.own_part.OwnPart.locked.Given as goal

abbrev pub invariant-loop-k : goal.invariant-loop-k
invariant-loop-k l = keys_of l.names.items ≡ take l.k (keys_of l.self.held.rows)
