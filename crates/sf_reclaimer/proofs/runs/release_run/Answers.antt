use Rattle.std.proofs.Common.{◌≡◌, ℕ, ◌+◌, ◌*◌, ◌/◌, ◌%◌, ◌≤◌, List, sym, subst, ap, ◌∙◌, arith}
use Rattle.sf_space_words.specs.declared.limits.TheConstants.{WORD_BLOCKS}
use Rattle.sf_space_words.specs.Blocks.{blocks_of_mask, without_mask, Covers}
use Rattle.sf_space_words.specs.Seats.{BlockSeat}
use Rattle.sf_reclaimer.proofs.LeftLemmas.{without-none}
use Rattle.sf_reclaimer.proofs.StepLemmas.{block_below, word_covers, word_left}
use Rattle.sf_reclaimer.proofs.runs.release_run.Goals as goal

pub loop-done-init : goal.loop-done-init
loop-done-init c = record { within = omega arith; seat = ap (λ (l : List ℕ). record c.args.seat.now { blocks = l }) (sym (without-none c.args.seat.now.blocks)) }

pub overflow_add-block : goal.overflow_add-block
overflow_add-block c =
    let below = block_below c.args.seat.now.capacity c.args.seat.now.blocks c.args.run.first c.args.run.blocks c.loop-done.done c.is_sound.ensures.below c.requires.blocks c.loop-done-test.true in
    let same = c.requires.words.1 in
    let few = c.count.ensures.range.1 in omega arith

pub release-requires-clause-word : goal.release-requires-clause-word
release-requires-clause-word c =
    let below = block_below c.args.seat.now.capacity c.args.seat.now.blocks c.args.run.first c.args.run.blocks c.loop-done.done c.is_sound.ensures.below c.requires.blocks c.loop-done-test.true in
    let same = c.requires.words.1 in omega arith

pub release-requires-clause-blocks : goal.release-requires-clause-blocks
release-requires-clause-blocks c =
    let block : ℕ = c.args.run.first + c.loop-done.done in
    let count = c.min-count.ensures in
    let test = c.loop-done-test.true in
    let at : block ≡ WORD_BLOCKS * (block / WORD_BLOCKS) + block % WORD_BLOCKS = omega arith in
    let inside : block % WORD_BLOCKS + c.min-count.result ≤ WORD_BLOCKS = omega arith in
    let within : c.loop-done.done + c.min-count.result ≤ c.args.run.blocks = omega arith in
    subst (λ s. Covers s.blocks (blocks_of_mask (block / WORD_BLOCKS) c.mask_from.result)) (sym c.loop-done.invariant.seat)
    (word_covers c.args.seat.now.blocks c.args.run.first c.loop-done.done c.min-count.result (block / WORD_BLOCKS) (block % WORD_BLOCKS) c.mask_from.result at inside c.mask_from.ensures c.args.run.blocks c.is_sound.ensures.once c.requires.blocks within)

pub loop-done-preserved : goal.loop-done-preserved
loop-done-preserved c =
    let block : ℕ = c.args.run.first + c.loop-done.done in
    let count = c.min-count.ensures in
    let test = c.loop-done-test.true in
    let at : block ≡ WORD_BLOCKS * (block / WORD_BLOCKS) + block % WORD_BLOCKS = omega arith in
    let inside : block % WORD_BLOCKS + c.min-count.result ≤ WORD_BLOCKS = omega arith in
    let without_word : BlockSeat → BlockSeat = λ s. record s { blocks = without_mask (block / WORD_BLOCKS) c.mask_from.result s.blocks } in record {
      within = omega arith;
      seat = c.release.ensures
          ∙ (ap without_word c.loop-done.invariant.seat
          ∙ ap (λ (l : List ℕ). record c.args.seat.now { blocks = l }) (word_left c.args.seat.now.blocks c.args.run.first c.loop-done.done c.min-count.result (block / WORD_BLOCKS) (block % WORD_BLOCKS) c.mask_from.result at inside c.mask_from.ensures));
    }
