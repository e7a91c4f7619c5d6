use Rattle.std.proofs.Common.{◌∙◌, ◌<◌, ap, sym, subst, arith, List, ℕ}
use Rattle.sf_space_words.specs.Blocks.{word_count, blocks_of_mask, Covers}
use Rattle.sf_space_words.proofs.ReleaseLemmas.{releases}
use Rattle.sf_space_words.proofs.SeatLemmas.{at_rest}
use Rattle.sf_space_words.proofs.words.Words.release.Goals as goal

pub fetch_and-requires : goal.fetch_and-requires
fetch_and-requires c =
    let within : c.args.word < word_count c.self.inside.table.shared.key = let h = c.requires.word in let e = ap (λ w. word_count w.capacity) c.self.view_is in omega arith in
    let covers : Covers c.seat.inside.seat.me.0.blocks (blocks_of_mask c.args.word c.args.mask) = subst (λ (l : List ℕ). Covers l (blocks_of_mask c.args.word c.args.mask)) (ap (λ s. s.blocks) (sym c.seat.view_is)) c.requires.blocks in (
      ap (λ s. s.id) c.seat.view_is ∙ (c.requires.words.0 ∙ sym (ap (λ w. w.id) c.self.view_is)),
      (let a = c.self.invariant.same in let b = c.self.invariant.whole in omega arith),
      releases _ _ _ _ _ _ within c.ranges.mask.fits covers,
    )

pub invariant_of-seat : goal.invariant_of-seat
invariant_of-seat c =
    let s = c.fetch_and.ensures.2 in
    let e = ap (λ m. m.0.capacity) s.0 in
    let p = c.seat.invariant.some in
    at_rest c.fetch_and.new.seat.me (ap (λ m. m.1) s.0 ∙ c.seat.invariant.slots) (omega arith) s.1
