use Rattle.std.proofs.Common.{◌∙◌, ◌<◌, ap, sym, arith}
use Rattle.sf_space_words.specs.Blocks.{word_count}
use Rattle.sf_space_words.proofs.ClaimLemmas.{claims}
use Rattle.sf_space_words.proofs.SeatLemmas.{at_rest}
use Rattle.sf_space_words.proofs.words.Words.claim.Goals as goal

pub fetch_or-found-requires : goal.fetch_or-found-requires
fetch_or-found-requires c =
    let within : c.args.word < word_count c.self.inside.table.shared.key = let h = c.requires.word in let e = ap (λ w. word_count w.capacity) c.self.view_is in omega arith in (
      ap (λ s. s.id) c.seat.view_is ∙ (c.requires.words.0 ∙ sym (ap (λ w. w.id) c.self.view_is)),
      (let a = c.self.invariant.same in let b = c.self.invariant.whole in omega arith),
      claims _ _ _ _ _ _ within,
    )

pub invariant_of-seat : goal.invariant_of-seat
invariant_of-seat c =
    let s = c.fetch_or-found.ensures.2 in
    let e = ap (λ m. m.0.capacity) s.0 in
    let p = c.seat.invariant.some in
    at_rest c.fetch_or-found.new.seat.me (ap (λ m. m.1) s.0 ∙ c.seat.invariant.slots) (omega arith) s.1
