use Rattle.std.proofs.Common.{◌≡◌, ℕ, ◌+◌, ◌≤◌, ◌%◌, ◌^◌, ◌∷◌, ◌++◌, [], length}
use Rattle.std.specs.Int.RustNames.{count_ones}
use Rattle.sf_types.specs.Space.BlockRuns.{blocks_in}
use Rattle.sf_space_words.specs.Blocks.{times}
use Rattle.sf_dispensers.proofs.BitLemmas.{named_below}
use Rattle.sf_dispensers.proofs.gathering.append_mask.Given as goal

abbrev pub invariant-loop-bit : goal.invariant-loop-bit
invariant-loop-bit l = record {
  blocks : (b : ℕ) → times b (blocks_in (l.runs.held ++ l.last ∷ [])) ≡ times b (blocks_in (l.initial.runs.held ++ l.initial.last ∷ [])) + times b (named_below l.word l.mask l.bit);
  count : length (blocks_in (l.runs.held ++ l.last ∷ [])) ≡ length (blocks_in (l.initial.runs.held ++ l.initial.last ∷ [])) + count_ones (l.mask % 2 ^ l.bit);
  spare : l.initial.runs.spare ≤ l.runs.spare + l.bit;
}
