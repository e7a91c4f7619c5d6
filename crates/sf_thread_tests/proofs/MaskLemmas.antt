-- Blocks that two masks name.
use Rattle.std.proofs.Common.{ℕ, ◌/◌, ◌%◌, List, ◌++◌, bit_and, arith}
use mathlib.Core.Logic.{dite}
use native.Mathlib.Decide.{ℕ_discrete}
use Rattle.std.proofs.lemmas.Nat.Bits.{bit_at_and}
use Rattle.sf_space_words.specs.declared.limits.TheConstants.{WORD_BLOCKS}
use Rattle.sf_space_words.specs.Blocks.{blocks_of_mask, Covers}
use Rattle.sf_space_words.proofs.TimesLemmas.{times-append, times-mask_here, times-mask_else}

-- a seat that claimed the blocks of a mask has those that another mask names too
pub mask_among : (xs : List ℕ) (word mask other : ℕ) → Covers (xs ++ blocks_of_mask word mask) (blocks_of_mask word (bit_and mask other))
mask_among xs word mask other b =
    let all = times-append b xs (blocks_of_mask word mask) in
    dite (ℕ_discrete (b / WORD_BLOCKS) word)
    (λ e. let few = times-mask_here word (bit_and mask other) b e in let more = times-mask_here word mask b e in let both = bit_at_and mask other (b % WORD_BLOCKS) in omega arith)
    (λ ne. let none = times-mask_else word (bit_and mask other) b ne in omega arith)
