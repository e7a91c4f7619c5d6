use Rattle.std.proofs.Common.{◌≡◌, ◌∙◌, ap, sym, subst, arith, List}
use Rattle.sf_types.specs.declared.run.Run.{Run}
use Rattle.sf_dispensers.specs.Seats.{IsJust}
use Rattle.sf_dispensers.proofs.SeatRunLemmas.{just_whole, just_once, just_below}
use Rattle.sf_dispensers.proofs.gathering.Gathering.into_reservation.Goals as goal
use Rattle.sf_dispensers.proofs.gathering.Gathering.into_reservation.Goals.{then-last_run-gt0, else-last_run-gt0, Joined-last_run-gt0}
use Rattle.sf_dispensers.proofs.gathering.Gathering.into_reservation.Given.{Over}

-- the seat has just the blocks of the runs and of the last run, where this has some
just : (g : Over) (c : Joined-last_run-gt0 g) → IsJust c.self.inside.seat.blocks c.if-last_run-gt0.runs.held
just g c =
    let own = c.self.invariant.own.just in
    elim c.if-last_run-gt0.branch [
      | then-last_run-gt0 w ↦ subst (λ (l : List Run). IsJust c.self.inside.seat.blocks l) (sym (ap (λ r. r.held) w.runs-is ∙ w.push_within.ensures.items)) own
      | else-last_run-gt0 w ↦
          let test = w.if-last_run-gt0.false in
          let none : c.self.inside.last_run.blocks ≡ 0 = omega arith in subst (λ (l : List Run). IsJust c.self.inside.seat.blocks l) (sym (ap (λ r. r.held) w.runs-is)) (just_whole c.self.inside.seat.blocks c.self.inside.runs.held c.self.inside.last_run none own)
    ]

pub invariant_of-result : goal.invariant_of-result
invariant_of-result g c = record { id = c.self.invariant.own.id; capacity = c.self.invariant.own.capacity; just = just g c }

pub returns-clause-once : goal.returns-clause-once
returns-clause-once g c = just_once c.self.inside.seat.blocks c.if-last_run-gt0.runs.held (just g c) c.is_sound.ensures.once

pub returns-clause-below : goal.returns-clause-below
returns-clause-below g c = just_below c.self.inside.seat.capacity g.N.Named.options.capacity c.self.inside.seat.blocks c.if-last_run-gt0.runs.held (just g c) c.self.invariant.own.capacity c.is_sound.ensures.below
