use Rattle.std.proofs.Common.{◌≡◌, ◌++◌, drop}
use Rattle.std.specs.Prelude.{flat_map}
use Rattle.sf_own_part.specs.Inside.Unlocking.{unlocked}
use Rattle.sf_own_part.proofs.own_part.OwnPart.unlocked_by.Given as goal

abbrev pub invariant-loop-k : goal.invariant-loop-k
invariant-loop-k l = l.names ++ flat_map (unlocked l.savepoint.locked) (drop l.k l.self.held.rows) ≡ flat_map (unlocked l.savepoint.locked) l.self.held.rows
