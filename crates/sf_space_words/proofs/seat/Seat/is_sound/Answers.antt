use Rattle.std.proofs.Common.{subst}
use Rattle.sf_space_words.specs.Blocks.{IsOnce, AreBelow}
use Rattle.sf_space_words.proofs.seat.Seat.is_sound.Goals as goal

pub returns-clause-once : goal.returns-clause-once
returns-clause-once c = subst (λ s. IsOnce s.blocks) c.self.view_is c.self.invariant.once

pub returns-clause-below : goal.returns-clause-below
returns-clause-below c = subst (λ s. AreBelow s.capacity s.blocks) c.self.view_is c.self.invariant.below
