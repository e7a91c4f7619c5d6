-- Masks of neighbouring bits, and the blocks that they name.
use Rattle.std.proofs.Common.{◌≡◌, ◌≢◌, ◌==◌, ◌&&◌, not, ℕ, zero, suc, ◌+◌, ◌-◌, ◌*◌, ◌/◌, ◌%◌, ◌^◌, ◌<◌, ◌≤◌, Bool, true, false, List, sym, ap, ◌∙◌, arith, eq-eqb, ne_eqb, true≢false}
use Rattle.std.specs.List.{range_with_len}
use Rattle.std.specs.Int.{bit_at}
use mathlib.Core.Logic.{dite}
use native.Mathlib.Decide.{ℕ_discrete, dec_le}
use Rattle.std.proofs.lemmas.Nat.{pow-add, shl_whole, pow_pos}
use Rattle.std.proofs.lemmas.Nat.Bits.{bit_at_mask_inside, bit_at_mask_below, bit_at_mask_above, bit_at-lt, ones_shr}
use Rattle.sf_space_words.specs.declared.limits.TheConstants.{WORD_BLOCKS}
use Rattle.sf_space_words.specs.Blocks.{times, is_named, blocks_of_mask, without_mask, without_blocks}
use Rattle.sf_space_words.proofs.TimesLemmas.{times-before, times-behind, times-within, times-mask_here, times-mask_else}
use Rattle.sf_reclaimer.specs.Inside.{mask_between}
use Rattle.sf_reclaimer.proofs.LeftLemmas.{filter_same}

-- the mask as the code computes it
pub mask_value : (offset count : ℕ) → offset + count ≤ 64 → (2 ^ 64 - 1) / 2 ^ (64 - count) * 2 ^ offset % 2 ^ 64 ≡ mask_between offset (offset + count)
mask_value offset count within =
    let low : (2 ^ 64 - 1) / 2 ^ (64 - count) ≡ 2 ^ (64 - (64 - count)) - 1 = ones_shr 64 (64 - count) (omega arith) in
    let back : 64 - (64 - count) ≡ count = omega arith in
    let ones : (2 ^ 64 - 1) / 2 ^ (64 - count) ≡ 2 ^ count - 1 = low ∙ ap (λ (k : ℕ). 2 ^ k - 1) back in
    let pos = pow_pos count in
    let whole : (2 ^ count - 1) * 2 ^ offset % 2 ^ 64 ≡ (2 ^ count - 1) * 2 ^ offset = shl_whole (2 ^ count - 1) count offset 64 (omega arith) (omega arith) in
    let product : 2 ^ (offset + count) ≡ 2 ^ offset * 2 ^ count = pow-add 2 offset count in
    ap (λ (k : ℕ). k * 2 ^ offset % 2 ^ 64) ones ∙ (whole ∙ parts (2 ^ count) (2 ^ offset) (2 ^ (offset + count)) pos product)
  where
    parts : (a b c : ℕ) → 0 < a → c ≡ b * a → (a - 1) * b ≡ c - b
    parts zero b c some e = absurd (omega arith)
    parts (suc a) b c some e = let less : suc a - 1 ≡ a = omega arith in ap (λ (n : ℕ). n * b) less ∙ omega (arith, e)

-- the blocks of the mask, by how often each stands there
pub mask_times : (word offset count b : ℕ) → offset + count ≤ WORD_BLOCKS → times b (blocks_of_mask word (mask_between offset (offset + count))) ≡ times b (range_with_len (WORD_BLOCKS * word + offset) count)
mask_times word offset count b within =
    let mask : ℕ = mask_between offset (offset + count) in
    let first : ℕ = WORD_BLOCKS * word + offset in
    dite (ℕ_discrete (b / WORD_BLOCKS) word)
    (λ e.
    let named = times-mask_here word mask b e in
    dite (dec_le first b)
    (λ from. dite (dec_le (first + count) b)
    (λ past. named ∙ (bit_at_mask_above offset (offset + count) (b % WORD_BLOCKS) (omega arith) ∙ sym (times-behind first count b past)))
    (λ before. named ∙ (bit_at_mask_inside offset (offset + count) (b % WORD_BLOCKS) (omega arith) (omega arith) ∙ sym (times-within first count b from (omega arith)))))
    (λ below. named ∙ (bit_at_mask_below offset (offset + count) (b % WORD_BLOCKS) (omega arith) ∙ sym (times-before first count b (omega arith)))))
    (λ ne.
    let none = times-mask_else word mask b ne in
    dite (dec_le first b)
    (λ from. none ∙ sym (times-behind first count b (let far : b / WORD_BLOCKS ≢ word = ne in omega arith)))
    (λ below. none ∙ sym (times-before first count b (omega arith))))

-- a block that a mask may name is left where it isn't among the mask's blocks
test_here : (t : Bool) (m n : ℕ) → t ≡ true → m ≡ n → m < 2 → not (t && (m == 1)) ≡ (n == 0)
test_here true zero n e s l = ap (λ (k : ℕ). k == 0) s
test_here true (suc zero) n e s l = ap (λ (k : ℕ). k == 0) s
test_here true (suc (suc m)) n e s l = absurd (omega arith)
test_here false m n e s l = absurd (true≢false (sym e))

test_else : (t u : Bool) (n : ℕ) → t ≡ false → n ≡ 0 → not (t && u) ≡ (n == 0)
test_else false u n e s = ap (λ (k : ℕ). k == 0) (sym s)
test_else true u n e s = absurd (true≢false e)

-- what a mask leaves is what its blocks leave
pub mask_left : (word offset count : ℕ) (xs : List ℕ) → offset + count ≤ WORD_BLOCKS → without_mask word (mask_between offset (offset + count)) xs ≡ without_blocks (range_with_len (WORD_BLOCKS * word + offset) count) xs
mask_left word offset count xs within =
    let mask : ℕ = mask_between offset (offset + count) in
    let blocks : List ℕ = range_with_len (WORD_BLOCKS * word + offset) count in
    filter_same (λ b. not (is_named word mask b)) (λ b. times b blocks == 0)
    (λ b. dite (ℕ_discrete (b / WORD_BLOCKS) word)
    (λ e. test_here (b / WORD_BLOCKS == word) (bit_at mask (b % WORD_BLOCKS)) (times b blocks) (eq-eqb (b / WORD_BLOCKS) word e) (sym (times-mask_here word mask b e) ∙ mask_times word offset count b within) (bit_at-lt mask (b % WORD_BLOCKS)))
    (λ ne. test_else (b / WORD_BLOCKS == word) (bit_at mask (b % WORD_BLOCKS) == 1) (times b blocks) (ne_eqb (b / WORD_BLOCKS) word ne) (sym (mask_times word offset count b within) ∙ times-mask_else word mask b ne)))
    xs
