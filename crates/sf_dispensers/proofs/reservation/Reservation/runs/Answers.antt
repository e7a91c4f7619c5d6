use Rattle.std.proofs.Common.{subst}
use Rattle.sf_types.specs.Space.BlockRuns.{blocks_in}
use Rattle.sf_space_words.specs.Blocks.{AreBelow, IsOnce}
use Rattle.sf_dispensers.proofs.SeatRunLemmas.{just_once, just_below}
use Rattle.sf_dispensers.proofs.reservation.Reservation.runs.Goals as goal

pub returns-clause-once : goal.returns-clause-once
returns-clause-once g c = subst (λ runs. IsOnce (blocks_in runs)) c.self.view_is (just_once c.self.inside.seat.blocks c.self.inside.runs.held c.self.invariant.just c.is_sound.ensures.once)

pub returns-clause-below : goal.returns-clause-below
returns-clause-below g c =
    subst (λ runs. AreBelow g.N.Named.options.capacity (blocks_in runs)) c.self.view_is
    (just_below c.self.inside.seat.capacity g.N.Named.options.capacity c.self.inside.seat.blocks c.self.inside.runs.held c.self.invariant.just c.self.invariant.capacity c.is_sound.ensures.below)
