use Rattle.std.proofs.Common.{sym, subst, bit_and}
use Rattle.sf_space_words.specs.Blocks.{blocks_of_mask, Covers}
use Rattle.sf_thread_tests.proofs.MaskLemmas.{mask_among}
use Rattle.sf_thread_tests.proofs.words.claims.Goals as goal

pub release-requires-clause-blocks : goal.release-requires-clause-blocks
release-requires-clause-blocks c = subst (λ s. Covers s.blocks (blocks_of_mask 0 (bit_and c.claim-first.result 1))) (sym c.claim-first.ensures.seat) (mask_among c.part-two.new.seat.blocks 0 c.claim-first.result 1)
