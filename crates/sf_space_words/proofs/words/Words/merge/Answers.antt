use Rattle.std.proofs.Common.{◌∙◌, ◌<◌, ap, sym, arith}
use Rattle.sf_space_words.specs.Blocks.{word_count}
use Rattle.sf_space_words.proofs.PartLemmas.{merges}
use Rattle.sf_space_words.proofs.LookLemmas.{looks}
use Rattle.sf_space_words.proofs.SeatLemmas.{at_rest}
use Rattle.sf_space_words.proofs.words.Words.merge.Goals as goal

pub join_seat-requires : goal.join_seat-requires
join_seat-requires c = (
  ap (λ s. s.id) c.seat.view_is ∙ (c.requires.words.0.0 ∙ sym (ap (λ w. w.id) c.self.view_is)),
  ap (λ s. s.id) c.other.view_is ∙ (c.requires.words.1.0 ∙ sym (ap (λ w. w.id) c.self.view_is)),
  c.other.invariant.slots,
  (let a = c.self.invariant.same in let b = c.self.invariant.whole in let d = c.self.invariant.some in omega arith),
  merges _ _ _ _ _,
)

pub load-requires : goal.load-requires
load-requires c =
    let within : 0 < word_count c.self.inside.table.shared.key = let d = c.self.invariant.some in omega arith in (
      c.join_seat.ensures.0 ∙ (ap (λ s. s.id) c.seat.view_is ∙ (c.requires.words.0.0 ∙ sym (ap (λ w. w.id) c.self.view_is))),
      (let a = c.self.invariant.same in let b = c.self.invariant.whole in let d = c.self.invariant.some in omega arith),
      looks _ _ _ _ _ within,
    )

pub returns-clause-once : goal.returns-clause-once
returns-clause-once c = c.load.ensures.2.1.0

pub invariant_of-seat : goal.invariant_of-seat
invariant_of-seat c =
    let s = c.load.ensures.2 in
    let is = s.0 ∙ c.join_seat.ensures.2 in
    let e = ap (λ m. m.0.capacity) is in
    let p = c.seat.invariant.some in
    at_rest c.load.new.seat.me (ap (λ m. m.1) is ∙ c.seat.invariant.slots) (omega arith) s.1
