use Rattle.std.proofs.Common.{ℕ, ◌∙◌, List, ap, sym, subst, arith}
use Rattle.sf_dispensers.specs.Seats.{IsJust}
use Rattle.sf_dispensers.proofs.SeatRunLemmas.{just_cut, ends_within}
use Rattle.sf_dispensers.proofs.dispenser.Dispenser.cut.Goals as goal

pub cut_front-run-requires-clause-end : goal.cut_front-run-requires-clause-end
cut_front-run-requires-clause-end g c =
    let few = c.count.ensures.range.1 in
    let own = c.self.invariant.capacity in
    let words = c.requires.1 in
    ends_within c.self.inside.seat.capacity c.self.inside.seat.blocks c.self.inside.runs.items (omega arith) c.is_sound.ensures.below c.self.invariant.just

pub invariant_of-self : goal.invariant_of-self
invariant_of-self g c =
    let left = c.part_run-part.ensures.left in
    let before = c.self.invariant in
    let items = c.cut_front-run.new.runs.items in record {
      id = ap (λ s. s.id) left ∙ before.id;
      capacity = ap (λ s. s.capacity) left ∙ before.capacity;
      just = subst (λ (l : List ℕ). IsJust l items) (sym (ap (λ s. s.blocks) left)) (just_cut c.self.inside.seat.blocks c.self.inside.runs.items items c.cut_front-run.result c.is_sound.ensures.once before.just c.cut_front-run.ensures.cut);
    }
