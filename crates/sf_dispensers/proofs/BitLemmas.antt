-- The set bits of words, and the blocks that a mask names.
use Rattle.std.proofs.Common.{◌≡◌, ◌==◌, ◌&&◌, ℕ, zero, suc, ◌+◌, ◌-◌, ◌*◌, ◌/◌, ◌%◌, ◌^◌, ◌<◌, ◌≤◌, min, Bool, true, false, cond, true≢false, List, bit_and, bit_or, refl, sym, ap, ◌∙◌, subst, arith, eq-eqb, filter}
use Rattle.std.specs.List.{range_with_len}
use Rattle.std.specs.Int.{bit_at, bit_not, leading_zeros}
use mir.Syntax.{w64}
use Rattle.std.specs.Int.RustNames.{count_ones}
use lib.Count.{ones_cat, ones-ones}
use Rattle.std.proofs.Math.Nat.{mod-eq_of_lt}
use Rattle.std.proofs.lemmas.Nat.{and_le_l, leading_length, mod-pow-add, mod_below, pow_pos, or_shifted, or_comm, one_shl}
use Rattle.std.proofs.lemmas.Nat.Bits.{bit_at-lt, bit_at_and, bit_at_above}
use mathlib.Core.Logic.{dite}
use native.Mathlib.Decide.{ℕ_discrete, dec_le}
use Rattle.sf_types.proofs.RunLemmas.{range-split}
use Rattle.sf_space_words.specs.declared.limits.TheConstants.{WORD_BLOCKS}
use Rattle.sf_space_words.specs.Blocks.{times, is_named, blocks_of_mask, clear_bits}
use Rattle.sf_space_words.proofs.TimesLemmas.{times-append, times-before, times-behind, times-filter}

pub ones_none : count_ones 0 ≡ 0
ones_none = ones-ones 0

pub ones_one : count_ones 1 ≡ 1
ones_one = ones-ones 1

ones_bit : (m : ℕ) → m < 2 → count_ones m ≡ m
ones_bit zero l = ones_none
ones_bit (suc zero) l = ones_one
ones_bit (suc (suc m)) l = absurd (omega arith)

-- the bits below one more offset
pub ones_more : (m k : ℕ) → count_ones (m % 2 ^ (k + 1)) ≡ bit_at m k + count_ones (m % 2 ^ k)
ones_more m k =
    let sum : k + 1 ≡ 1 + k = omega arith in
    ap (λ (j : ℕ). count_ones (m % 2 ^ j)) sum
    ∙ (ap count_ones (mod-pow-add m 1 k)
    ∙ (ones_cat k (bit_at m k) (m % 2 ^ k) (mod_below m (2 ^ k) (pow_pos k))
    ∙ ap (λ (n : ℕ). n + count_ones (m % 2 ^ k)) (ones_bit (bit_at m k) (bit_at-lt m k))))

pub ones_start : (m : ℕ) → count_ones (m % 2 ^ 0) ≡ 0
ones_start m = let none : m % 2 ^ 0 ≡ 0 = omega arith in ap count_ones none ∙ ones_none

pub ones_whole : (m k : ℕ) → m < 2 ^ k → count_ones (m % 2 ^ k) ≡ count_ones m
ones_whole m k fits = ap count_ones (mod-eq_of_lt fits)

-- a word with fewer bits has fewer set bits
ones_fewer_below : (a b k : ℕ) → ((i : ℕ) → bit_at a i ≤ bit_at b i) → count_ones (a % 2 ^ k) ≤ count_ones (b % 2 ^ k)
ones_fewer_below a b zero fewer = omega (arith, ones_start a, ones_start b)
ones_fewer_below a b (suc k) fewer =
    let f = fewer k in
    let rest = ones_fewer_below a b k fewer in
    let same : suc k ≡ k + 1 = omega arith in
    let more_a : count_ones (a % 2 ^ suc k) ≡ bit_at a k + count_ones (a % 2 ^ k) = ap (λ (j : ℕ). count_ones (a % 2 ^ j)) same ∙ ones_more a k in
    let more_b : count_ones (b % 2 ^ suc k) ≡ bit_at b k + count_ones (b % 2 ^ k) = ap (λ (j : ℕ). count_ones (b % 2 ^ j)) same ∙ ones_more b k in
    omega arith

pub ones_and : (a b : ℕ) → a < 2 ^ 64 → bit_and a b < 2 ^ 64 → count_ones (bit_and a b) ≤ count_ones a
ones_and a b fits and_fits =
    let fewer = ones_fewer_below (bit_and a b) a 64 (λ i. let e = bit_at_and a b i in omega arith) in
    omega (arith, fewer, ones_whole a 64 fits, ones_whole (bit_and a b) 64 and_fits)

-- a word's bits up to a place, with the bit of that place where it is set
low_parts : (word bit : ℕ) → word % 2 ^ (bit + 1) ≡ bit_at word bit * 2 ^ bit + word % 2 ^ bit
low_parts word bit = let sum : bit + 1 ≡ 1 + bit = omega arith in ap (λ (k : ℕ). word % 2 ^ k) sum ∙ mod-pow-add word 1 bit

pub low_set : (word bit : ℕ) → bit < 64 → bit_at word bit ≡ 1 → bit_or (word % 2 ^ bit) (1 * 2 ^ bit % 2 ^ 64) ≡ word % 2 ^ (bit + 1)
low_set word bit lt set =
    let low : ℕ = word % 2 ^ bit in
    let one : 1 * 2 ^ bit % 2 ^ 64 ≡ 2 ^ bit = one_shl bit 64 lt in
    let is : bit_or low (1 * 2 ^ bit % 2 ^ 64) ≡ 1 * 2 ^ bit + low = ap (bit_or low) one ∙ (or_comm low (2 ^ bit) ∙ (ap (λ (n : ℕ). bit_or n low) (omega arith) ∙ or_shifted 1 bit low (mod_below word (2 ^ bit) (pow_pos bit)))) in
    is ∙ (ap (λ (n : ℕ). n * 2 ^ bit + low) (sym set) ∙ sym (low_parts word bit))

pub low_same : (word bit : ℕ) → bit_at word bit ≡ 0 → word % 2 ^ bit ≡ word % 2 ^ (bit + 1)
low_same word bit clear = let none : 0 * 2 ^ bit + word % 2 ^ bit ≡ word % 2 ^ bit = omega arith in sym none ∙ (ap (λ (n : ℕ). n * 2 ^ bit + word % 2 ^ bit) (sym clear) ∙ sym (low_parts word bit))

-- the least of two numbers
pub least_first : (m n : ℕ) → m ≤ n → m ≡ min m n
least_first m n le = omega arith

pub least_second : (m n : ℕ) → n ≤ m → n ≡ min m n
least_second m n le = omega arith

-- the blocks of a word's first bits that a mask names
abbrev pub named_below : ℕ → ℕ → ℕ → List ℕ
named_below word mask k = filter (is_named word mask) (range_with_len (WORD_BLOCKS * word) k)

-- whether a mask names the block of a bit of its word
named_bit : (word mask k : ℕ) → k < WORD_BLOCKS → is_named word mask (WORD_BLOCKS * word + k) ≡ (bit_at mask k == 1)
named_bit word mask k lt =
    let row : (WORD_BLOCKS * word + k) / WORD_BLOCKS ≡ word = omega arith in
    let column : (WORD_BLOCKS * word + k) % WORD_BLOCKS ≡ k = omega arith in
    λ i. eq-eqb ((WORD_BLOCKS * word + k) / WORD_BLOCKS) word row i && (bit_at mask (column i) == 1)

bit_test : (m : ℕ) (t : Bool) → m ≡ 1 → t ≡ (m == 1) → t ≡ true
bit_test m t e is = is ∙ ap (λ (n : ℕ). n == 1) e

bit_test_clear : (m : ℕ) (t : Bool) → m ≡ 0 → t ≡ (m == 1) → t ≡ false
bit_test_clear m t e is = is ∙ ap (λ (n : ℕ). n == 1) e

-- the next block among those that pass a test, by how often it stands there
passed_more : (t : Bool) (x y : ℕ) → ((y ≡ 0 → ⊥) → t ≡ true) → cond t (x + y) 0 ≡ cond t x 0 + y
passed_more true x y h = refl
passed_more false x zero h = refl
passed_more false x (suc y) h = absurd (true≢false (sym (h (λ e. omega arith))))

passed_none : (t : Bool) (x y : ℕ) → ((y ≡ 0 → ⊥) → t ≡ false) → cond t (x + y) 0 ≡ cond t x 0
passed_none true x zero h = omega arith
passed_none true x (suc y) h = absurd (true≢false (h (λ e. omega arith)))
passed_none false x y h = refl

-- a run of one block is that block
only_block : (first b : ℕ) → (times b (range_with_len first 1) ≡ 0 → ⊥) → b ≡ first
only_block first b some = dite (ℕ_discrete b first) (λ e. e) (λ ne. dite (dec_le first b) (λ from. absurd (some (times-behind first 1 b (omega arith)))) (λ before. absurd (some (times-before first 1 b (omega arith)))))

below_times : (word mask k b : ℕ) → times b (named_below word mask (k + 1)) ≡ cond (is_named word mask b) (times b (range_with_len (WORD_BLOCKS * word) k) + times b (range_with_len (WORD_BLOCKS * word + k) 1)) 0
below_times word mask k b =
    times-filter (is_named word mask) b (range_with_len (WORD_BLOCKS * word) (k + 1))
    ∙ ap (λ (n : ℕ). cond (is_named word mask b) n 0) (ap (times b) (range-split (WORD_BLOCKS * word) k 1) ∙ times-append b (range_with_len (WORD_BLOCKS * word) k) (range_with_len (WORD_BLOCKS * word + k) 1))

-- a set bit's block is named
pub named_more : (word mask k b : ℕ) → k < WORD_BLOCKS → bit_at mask k ≡ 1 → times b (named_below word mask (k + 1)) ≡ times b (named_below word mask k) + times b (range_with_len (WORD_BLOCKS * word + k) 1)
named_more word mask k b lt set =
    let x : ℕ = times b (range_with_len (WORD_BLOCKS * word) k) in
    let y : ℕ = times b (range_with_len (WORD_BLOCKS * word + k) 1) in
    below_times word mask k b
    ∙ (passed_more (is_named word mask b) x y (λ some. bit_test (bit_at mask k) (is_named word mask b) set (ap (is_named word mask) (only_block (WORD_BLOCKS * word + k) b some) ∙ named_bit word mask k lt))
    ∙ ap (λ (n : ℕ). n + y) (sym (times-filter (is_named word mask) b (range_with_len (WORD_BLOCKS * word) k))))

-- and a clear bit's block isn't
pub named_same : (word mask k b : ℕ) → k < WORD_BLOCKS → bit_at mask k ≡ 0 → times b (named_below word mask (k + 1)) ≡ times b (named_below word mask k)
named_same word mask k b lt clear =
    let x : ℕ = times b (range_with_len (WORD_BLOCKS * word) k) in
    let y : ℕ = times b (range_with_len (WORD_BLOCKS * word + k) 1) in
    below_times word mask k b
    ∙ (passed_none (is_named word mask b) x y (λ some. bit_test_clear (bit_at mask k) (is_named word mask b) clear (ap (is_named word mask) (only_block (WORD_BLOCKS * word + k) b some) ∙ named_bit word mask k lt))
    ∙ sym (times-filter (is_named word mask) b (range_with_len (WORD_BLOCKS * word) k)))

-- bits that a mask doesn't have name no block
named_rest : (word mask k j b : ℕ) → mask < 2 ^ k → k + j ≤ WORD_BLOCKS → times b (named_below word mask (k + j)) ≡ times b (named_below word mask k)
named_rest word mask k zero b below within = let same : k + 0 ≡ k = omega arith in ap (λ (n : ℕ). times b (named_below word mask n)) same
named_rest word mask k (suc j) b below within =
    let next : k + suc j ≡ k + j + 1 = omega arith in
    ap (λ (n : ℕ). times b (named_below word mask n)) next
    ∙ (named_same word mask (k + j) b (omega arith) (bit_at_above mask k (k + j) below (omega arith))
    ∙ named_rest word mask k j b below (omega arith))

named_all : (word mask : ℕ) → named_below word mask WORD_BLOCKS ≡ blocks_of_mask word mask
unfolding blocks_of_mask
named_all word mask = refl

-- the bits up to the highest set one name the blocks of the mask
pub named_whole : (word mask k b : ℕ) → mask < 2 ^ k → k ≤ WORD_BLOCKS → times b (named_below word mask k) ≡ times b (blocks_of_mask word mask)
named_whole word mask k b below within =
    let sum : k + (WORD_BLOCKS - k) ≡ WORD_BLOCKS = omega arith in
    sym (named_rest word mask k (WORD_BLOCKS - k) b below (omega arith))
    ∙ (ap (λ (n : ℕ). times b (named_below word mask n)) sum ∙ ap (times b) (named_all word mask))

-- the highest set bit stands before the leading zeros
pub below_leading : (mask k : ℕ) → mask < 2 ^ 64 → k ≡ 64 - leading_zeros w64 mask → (mask < 2 ^ k) × (k ≤ 64)
below_leading mask k fits is =
    let long = leading_length 64 mask fits in
    let same : long.0 ≡ k = let sum = long.1 in omega arith in
    (subst (λ (n : ℕ). mask < 2 ^ n) same long.2, omega arith)

-- a claim answers no more bits than it asks for
pub ones_claimed : (mask word claimed : ℕ) → mask < 2 ^ 64 → claimed ≡ clear_bits mask word → count_ones claimed ≤ count_ones mask
ones_claimed mask word claimed fits is =
    let fewer = ones_and mask (bit_not w64 word) fits (let l = and_le_l mask (bit_not w64 word) in omega arith) in
    let same : count_ones claimed ≡ count_ones (bit_and mask (bit_not w64 word)) = ap count_ones is in omega arith
