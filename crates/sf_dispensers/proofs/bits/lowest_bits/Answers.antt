use Rattle.std.proofs.Common.{◌≡◌, ◌∙◌, ℕ, ◌*◌, ◌%◌, ◌^◌, bit_or, ap, sym, arith}
use Rattle.std.specs.Int.{bit_at}
use Rattle.std.proofs.Math.Nat.{mod-eq_of_lt}
use Rattle.std.proofs.lemmas.Nat.Bits.{shr_and_one, bit_at-lt}
use Rattle.sf_dispensers.proofs.BitLemmas.{ones_more, ones_start, low_set, low_same}
use Rattle.sf_dispensers.proofs.bits.lowest_bits.Goals as goal
use Rattle.sf_dispensers.proofs.bits.lowest_bits.Goals.{then-word-bit-eq1, else-word-bit-eq1}

pub loop-bit-init : goal.loop-bit-init
loop-bit-init c = record { mask = omega arith; count = sym (ones_start c.args.word); few = omega arith }

pub loop-bit-preserved : goal.loop-bit-preserved
loop-bit-preserved c =
    let i = c.loop-bit.invariant in
    let word = c.args.word in
    let bit = c.loop-bit.bit in
    let digit = shr_and_one word bit in
    let more = ones_more word bit in
    let count = i.count in
    let few = i.few in
    let other = c.if-count-most.false in
    elim c.if-word-bit-eq1.branch [
      | then-word-bit-eq1 w ↦
          let set : bit_at word bit ≡ 1 = sym digit ∙ w.if-word-bit-eq1.true in
          let next = w.count-is in record {
            mask = w.mask-is ∙ (ap (λ (m : ℕ). bit_or m (1 * 2 ^ bit % 2 ^ 64)) i.mask ∙ low_set word bit c.loop-bit-test.true set);
            count = omega arith;
            few = omega arith;
          }
      | else-word-bit-eq1 w ↦
          let unset = w.if-word-bit-eq1.false in
          let small = bit_at-lt word bit in
          let clear : bit_at word bit ≡ 0 = omega arith in
          let same = w.count-is in record {
            mask = w.mask-is ∙ (i.mask ∙ low_same word bit clear);
            count = omega arith;
            few = omega arith;
          }
    ]

pub returns-then-from-most-clause-lowest : goal.returns-then-from-most-clause-lowest
returns-then-from-most-clause-lowest c = (64, sym (mod-eq_of_lt c.ranges.word.fits))
