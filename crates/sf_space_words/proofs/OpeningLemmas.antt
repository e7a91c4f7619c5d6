-- Words at the start: all blocks clear, and the bits past the last block set.
use Rattle.std.proofs.Common.{◌≡◌, ◌≢◌, ℕ, zero, suc, ◌-◌, ◌*◌, ◌/◌, ◌%◌, ◌^◌, ◌<◌, List, [], ◌∷◌, length, get_or, set, replicate, refl, sym, ap, ◌∙◌, arith, length-set}
use Rattle.std.specs.Int.{bit_at}
use mathlib.Core.Option.{some, some-injective, some-ne-none}
use mathlib.Core.Logic.{dite}
use native.Mathlib.Decide.{ℕ_discrete}
use lib.ListN.{get_elem?}
use Rattle.atomic_table.specs.Table.{opening}
use Rattle.std.proofs.lemmas.Nat.Bits.{bit_at-zero, bit_at_mask_inside, bit_at_mask_below, ones_shl}
use Rattle.sf_space_words.specs.declared.limits.TheConstants.{WORD_BLOCKS}
use Rattle.sf_space_words.specs.declared.view.View.{View}
use Rattle.sf_space_words.specs.Blocks.{bit_of, word_count}
use Rattle.sf_space_words.specs.Rule.{SpaceRule, view_without_blocks}
use Rattle.sf_space_words.specs.Inside.{AreOpening}
use Rattle.sf_space_words.proofs.ViewLemmas.{bit_of_set, bit_of_else}

abbrev zeros : ℕ → List ℕ
zeros n = replicate n 0

pub length_zeros : (n : ℕ) → length (zeros n) ≡ n
length_zeros zero = refl
length_zeros (suc n) = ap suc (length_zeros n)

zero_at : (n k : ℕ) → get_or (zeros n) k 0 ≡ 0
zero_at zero k = refl
zero_at (suc n) zero = refl
zero_at (suc n) (suc k) = zero_at n k

bit_zero : (n b : ℕ) → bit_of (zeros n) b ≡ 0
bit_zero n b = ap (λ (k : ℕ). bit_at k (b % WORD_BLOCKS)) (zero_at n (b / WORD_BLOCKS)) ∙ bit_at-zero (b % WORD_BLOCKS)

pub opening_full : (n : ℕ) → n % WORD_BLOCKS ≡ 0 → AreOpening n (zeros (word_count n))
opening_full n e = record {
  count = length_zeros (word_count n);
  clear = λ b h. bit_zero (word_count n) b;
  filled = λ b h l. let c = length_zeros (word_count n) in absurd (omega arith);
}

pub opening_cut : (n : ℕ) → n % WORD_BLOCKS ≢ 0 → AreOpening n (set (zeros (word_count n)) (word_count n - 1) (18446744073709551615 * 2 ^ (n % WORD_BLOCKS) % 18446744073709551616))
opening_cut n ne =
    let words : List ℕ = zeros (word_count n) in
    let last : ℕ = word_count n - 1 in
    let top : ℕ = 18446744073709551615 * 2 ^ (n % WORD_BLOCKS) % 18446744073709551616 in
    let is : top ≡ 2 ^ 64 - 2 ^ (n % WORD_BLOCKS) = ones_shl 64 (n % WORD_BLOCKS) (omega arith) in
    let long = length_zeros (word_count n) in
    let there : last < length words = omega arith in
    let bit : (b : ℕ) → b / WORD_BLOCKS ≡ last → bit_of (set words last top) b ≡ bit_at (2 ^ 64 - 2 ^ (n % WORD_BLOCKS)) (b % WORD_BLOCKS) = λ b e. bit_of_set words last top b there e ∙ ap (λ (k : ℕ). bit_at k (b % WORD_BLOCKS)) is in
    record {
      count = length-set words last top ∙ long;
      clear = λ b h. dite (ℕ_discrete (b / WORD_BLOCKS) last)
          (λ e. bit b e ∙ bit_at_mask_below (n % WORD_BLOCKS) 64 (b % WORD_BLOCKS) (omega arith))
          (λ else. bit_of_else words last top b else ∙ bit_zero (word_count n) b);
      filled = λ b h l. let e : b / WORD_BLOCKS ≡ last = let k = length-set words last top in omega arith in bit b e ∙ bit_at_mask_inside (n % WORD_BLOCKS) 64 (b % WORD_BLOCKS) (omega arith) (omega arith);
    }
