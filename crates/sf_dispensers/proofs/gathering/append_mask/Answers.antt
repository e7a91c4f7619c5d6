use Rattle.std.proofs.Common.{◌≡◌, ◌∙◌, ℕ, ◌+◌, ◌<◌, ◌++◌, ◌∷◌, [], length, ap, sym, arith}
use Rattle.std.specs.Int.{bit_at}
use Rattle.std.proofs.lemmas.Nat.Bits.{shr_and_one, bit_at-lt}
use Rattle.sf_types.specs.Space.BlockRuns.{blocks_in}
use Rattle.sf_space_words.specs.declared.limits.TheConstants.{WORD_BLOCKS}
use Rattle.sf_space_words.specs.Blocks.{times}
use Rattle.sf_dispensers.proofs.BitLemmas.{ones_more, ones_whole, named_more, named_same, named_whole, below_leading}
use Rattle.sf_dispensers.proofs.gathering.append_mask.Goals as goal
use Rattle.sf_dispensers.proofs.gathering.append_mask.Goals.{then-mask-bit-eq1, else-mask-bit-eq1}

pub loop-bit-preserved : goal.loop-bit-preserved
loop-bit-preserved c =
    let i = c.loop-bit.invariant in
    let bit = c.loop-bit.bit in
    let lt : bit < WORD_BLOCKS = let test = c.loop-bit-test.true in omega arith in
    let digit = shr_and_one c.args.mask bit in
    let spare = i.spare in
    let count = i.count in
    let more = ones_more c.args.mask bit in
    elim c.if-mask-bit-eq1.branch [
      | then-mask-bit-eq1 w ↦
          let set : bit_at c.args.mask bit ≡ 1 = sym digit ∙ w.if-mask-bit-eq1.true in
          let gains = w.append_run.ensures.blocks in
          let gained = gains.count in
          let used = w.append_run.ensures.spare in
          let spare_is = ap (λ r. r.spare) w.runs-is in
          let length_is : length (blocks_in (c.if-mask-bit-eq1.runs.held ++ c.if-mask-bit-eq1.last ∷ [])) ≡ length (blocks_in (w.append_run.new.runs.held ++ w.append_run.new.last ∷ [])) = λ j. length (blocks_in ((w.runs-is j).held ++ w.last-is j ∷ [])) in record {
            blocks = λ b.
                let times_is : times b (blocks_in (c.if-mask-bit-eq1.runs.held ++ c.if-mask-bit-eq1.last ∷ [])) ≡ times b (blocks_in (w.append_run.new.runs.held ++ w.append_run.new.last ∷ [])) = λ j. times b (blocks_in ((w.runs-is j).held ++ w.last-is j ∷ [])) in
                let before = i.blocks b in
                let gain = gains.blocks b in
                let named = named_more c.args.word c.args.mask bit b lt set in omega arith;
            count = omega arith;
            spare = omega arith;
          }
      | else-mask-bit-eq1 w ↦
          let unset = w.if-mask-bit-eq1.false in
          let small = bit_at-lt c.args.mask bit in
          let clear : bit_at c.args.mask bit ≡ 0 = omega arith in
          let spare_is = ap (λ r. r.spare) w.runs-is in
          let length_is : length (blocks_in (c.if-mask-bit-eq1.runs.held ++ c.if-mask-bit-eq1.last ∷ [])) ≡ length (blocks_in (c.loop-bit.runs.held ++ c.loop-bit.last ∷ [])) = λ j. length (blocks_in ((w.runs-is j).held ++ w.last-is j ∷ [])) in record {
            blocks = λ b.
                let times_is : times b (blocks_in (c.if-mask-bit-eq1.runs.held ++ c.if-mask-bit-eq1.last ∷ [])) ≡ times b (blocks_in (c.loop-bit.runs.held ++ c.loop-bit.last ∷ [])) = λ j. times b (blocks_in ((w.runs-is j).held ++ w.last-is j ∷ [])) in
                let before = i.blocks b in
                let named = named_same c.args.word c.args.mask bit b lt clear in omega arith;
            count = omega arith;
            spare = omega arith;
          }
    ]

pub returns-clause-blocks : goal.returns-clause-blocks
returns-clause-blocks c =
    let i = c.loop-bit.invariant in
    let test = c.loop-bit-test.false in
    let most = c.loop-bit.auto.bit-end in
    let end = below_leading c.args.mask c.loop-bit.bit c.ranges.mask.fits (omega arith) in record {
      blocks = λ b. i.blocks b ∙ ap (λ (n : ℕ). times b (blocks_in (c.args.runs.now.held ++ c.args.last.now ∷ [])) + n) (named_whole c.args.word c.args.mask c.loop-bit.bit b end.0 end.1);
      count = i.count ∙ ap (λ (n : ℕ). length (blocks_in (c.args.runs.now.held ++ c.args.last.now ∷ [])) + n) (ones_whole c.args.mask c.loop-bit.bit end.0);
    }
