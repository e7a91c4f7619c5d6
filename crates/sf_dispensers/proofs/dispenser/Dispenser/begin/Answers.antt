use Rattle.std.proofs.Common.{ℕ, ◌∙◌, List, ap, sym, subst}
use Rattle.sf_dispensers.specs.Seats.{IsJust}
use Rattle.sf_dispensers.proofs.SeatRunLemmas.{just_without_none}
use Rattle.sf_dispensers.proofs.dispenser.Dispenser.begin.Goals as goal

pub invariant_of-self : goal.invariant_of-self
invariant_of-self g c =
    let left = c.part-seat.ensures.left in
    let before = c.self.invariant in record {
      id = ap (λ s. s.id) left ∙ before.id;
      capacity = ap (λ s. s.capacity) left ∙ before.capacity;
      just = subst (λ (l : List ℕ). IsJust l c.self.inside.runs.items) (sym (ap (λ s. s.blocks) left)) (just_without_none c.self.inside.seat.blocks c.make_room.new.self.held c.self.inside.runs.items (c.make_room.ensures.held ∙ c.new-runs.ensures.items) before.just);
    }
