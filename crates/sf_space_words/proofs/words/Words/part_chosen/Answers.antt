use Rattle.std.proofs.Common.{◌∙◌, ap, sym, subst, refl, arith}
use Rattle.sf_space_words.specs.Steps.{IsSound, view_after_part, view_of_part}
use Rattle.sf_space_words.proofs.PartLemmas.{parts}
use Rattle.sf_space_words.proofs.SeatLemmas.{covers_as, sound_of, covers_left, at_rest}
use Rattle.sf_space_words.proofs.words.Words.part_chosen.Goals as goal

pub split_seat-part-requires : goal.split_seat-part-requires
split_seat-part-requires g c = (
  ap (λ s. s.id) c.seat.view_is ∙ (c.requires.words.0 ∙ sym (ap (λ w. w.id) c.self.view_is)),
  (let a = c.self.invariant.same in let b = c.self.invariant.whole in let d = c.self.invariant.some in omega arith),
  parts _ _ _ g.C.Chosen.blocks (covers_as _ _ _ g.C.Chosen.blocks (ap (λ s. s.blocks) (sym c.seat.view_is)) (sym c.requires.chosen) c.requires.blocks),
)

pub invariant_of-seat : goal.invariant_of-seat
invariant_of-seat g c =
    let is = c.split_seat-part.ensures.2 in
    let e = ap (λ m. m.0.capacity) is in
    let p = c.seat.invariant.some in
    let v = c.seat.inside.seat.me.0 in
    at_rest c.split_seat-part.new.seat.me (ap (λ m. m.1) is ∙ c.seat.invariant.slots) (omega arith) (subst (λ m. IsSound m.0) (sym is) (sound_of v (view_after_part g.C.Chosen.blocks v) (covers_left g.C.Chosen.blocks v.blocks) refl c.seat.invariant.once c.seat.invariant.below))

pub invariant_of-result : goal.invariant_of-result
invariant_of-result g c =
    let is = c.split_seat-part.ensures.4 in
    let e = ap (λ m. m.0.capacity) is in
    let p = c.seat.invariant.some in
    let v = c.seat.inside.seat.me.0 in
    let covers = covers_as _ _ _ g.C.Chosen.blocks (ap (λ s. s.blocks) (sym c.seat.view_is)) (sym c.requires.chosen) c.requires.blocks in
    at_rest c.split_seat-part.result.me (ap (λ m. m.1) is) (omega arith) (subst (λ m. IsSound m.0) (sym is) (sound_of v (view_of_part g.C.Chosen.blocks v) covers refl c.seat.invariant.once c.seat.invariant.below))
