-- How often a block stands in lists of blocks, in those of a mask, and in what is left of a list.
use Rattle.std.proofs.Common.{◌≡◌, ◌≢◌, ℕ, zero, suc, ◌+◌, ◌-◌, ◌*◌, ◌/◌, ◌%◌, ◌<◌, ◌≤◌, ◌==◌, ◌&&◌, Bool, true, false, cond, not, List, [], ◌∷◌, ◌++◌, refl, sym, ap, ◌∙◌, arith, filter, eqb-true, eq-eqb, ne_eqb, true≢false}
use Rattle.std.specs.List.{range_with_len}
use Rattle.std.specs.Int.{bit_at}
use Rattle.std.proofs.lemmas.List.Sums.{sum_by-cons, sum_by-append}
use Rattle.std.proofs.lemmas.Nat.Bits.{bit_at-lt}
use Rattle.sf_space_words.specs.declared.limits.TheConstants.{WORD_BLOCKS}
use Rattle.sf_space_words.specs.Blocks.{times, is_named, blocks_of_mask, without_mask, without_blocks}

pub times-cons : (b x : ℕ) (xs : List ℕ) → times b (x ∷ xs) ≡ cond (x == b) 1 0 + times b xs
times-cons b x xs = sum_by-cons (λ other. cond (other == b) 1 0) x xs

pub times-append : (b : ℕ) (xs ys : List ℕ) → times b (xs ++ ys) ≡ times b xs + times b ys
times-append b xs ys = sum_by-append (λ other. cond (other == b) 1 0) xs ys

times-cond : (b x : ℕ) (ys : List ℕ) (t : Bool) → times b (cond t (x ∷ ys) ys) ≡ cond t (cond (x == b) 1 0 + times b ys) (times b ys)
times-cond b x ys true = times-cons b x ys
times-cond b x ys false = refl

-- the step of a filter, by what the test gives and whether the item is the block
filter_step : (px pb same : Bool) (n m : ℕ) → (same ≡ true → px ≡ pb) → n ≡ cond pb m 0 → cond px (cond same 1 0 + n) n ≡ cond pb (cond same 1 0 + m) 0
filter_step true true same n m h e = ap (λ (k : ℕ). cond same 1 0 + k) e
filter_step true false true n m h e = absurd (true≢false (h refl))
filter_step true false false n m h e = omega (arith, e)
filter_step false true true n m h e = absurd (true≢false (sym (h refl)))
filter_step false true false n m h e = omega (arith, e)
filter_step false false same n m h e = e

nothing : (t : Bool) → times 0 [] ≡ cond t 0 0
nothing true = refl
nothing false = refl

pub times-filter : (p : ℕ → Bool) (b : ℕ) (xs : List ℕ) → times b (filter p xs) ≡ cond (p b) (times b xs) 0
times-filter p b [] = nothing (p b)
times-filter p b (x ∷ xs) =
    times-cond b x (filter p xs) (p x)
    ∙ (filter_step (p x) (p b) (x == b) (times b (filter p xs)) (times b xs) (λ e. ap p (eqb-true x b e)) (times-filter p b xs)
    ∙ ap (λ (n : ℕ). cond (p b) n 0) (sym (times-cons b x xs)))

pub times-before : (a n b : ℕ) → b < a → times b (range_with_len a n) ≡ 0
times-before a zero b h = refl
times-before a (suc n) b h = grind (arith, times-cons, times-before (a + 1) n b (omega arith))

pub times-behind : (a n b : ℕ) → a + n ≤ b → times b (range_with_len a n) ≡ 0
times-behind a zero b h = refl
times-behind a (suc n) b h = grind (arith, times-cons, times-behind (a + 1) n b (omega arith))

within_step : (b a n : ℕ) (t : Bool) → (a == b) ≡ t → (a ≢ b → times b (range_with_len (a + 1) n) ≡ 1) → times b (a ∷ range_with_len (a + 1) n) ≡ 1
within_step b a n true e later = let is = eqb-true a b e in let none = times-before (a + 1) n b (omega arith) in let more = ap (λ (t : Bool). cond t 1 0 + times b (range_with_len (a + 1) n)) e in times-cons b a (range_with_len (a + 1) n) ∙ (more ∙ omega arith)
within_step b a n false e later =
    times-cons b a (range_with_len (a + 1) n) ∙ (ap (λ (t : Bool). cond t 1 0 + times b (range_with_len (a + 1) n)) e ∙ (let l = later (λ is. absurd (true≢false (sym (eq-eqb a b is) ∙ e))) in omega arith))

pub times-within : (a n b : ℕ) → a ≤ b → b < a + n → times b (range_with_len a n) ≡ 1
times-within a zero b h l = absurd (omega arith)
times-within a (suc n) b h l = within_step b a n (a == b) refl (λ ne. times-within (a + 1) n b (omega arith) (omega arith))

-- a test of two parts, as a number
pub asked : (t : Bool) (m x : ℕ) → t ≡ true → m < 2 → x ≡ 1 → cond (t && (m == 1)) x 0 ≡ m
asked true zero x e l one = refl
asked true (suc zero) x e l one = one
asked true (suc (suc m)) x e l one = absurd (omega arith)
asked false m x e l one = absurd (true≢false (sym e))

unasked : (t u : Bool) (x : ℕ) → t ≡ false → cond (t && u) x 0 ≡ 0
unasked false u x e = refl
unasked true u x e = absurd (true≢false e)

-- the blocks of a mask, in its word and elsewhere
pub times-mask_here : (word mask b : ℕ) → b / WORD_BLOCKS ≡ word → times b (blocks_of_mask word mask) ≡ bit_at mask (b % WORD_BLOCKS)
unfolding blocks_of_mask
times-mask_here word mask b e =
    times-filter (is_named word mask) b (range_with_len (WORD_BLOCKS * word) 64)
    ∙ asked (b / WORD_BLOCKS == word) (bit_at mask (b % WORD_BLOCKS)) (times b (range_with_len (WORD_BLOCKS * word) 64)) (eq-eqb (b / WORD_BLOCKS) word e) (bit_at-lt mask (b % WORD_BLOCKS)) (times-within (WORD_BLOCKS * word) 64 b (omega arith) (omega arith))

pub times-mask_else : (word mask b : ℕ) → b / WORD_BLOCKS ≢ word → times b (blocks_of_mask word mask) ≡ 0
unfolding blocks_of_mask
times-mask_else word mask b ne =
    times-filter (is_named word mask) b (range_with_len (WORD_BLOCKS * word) 64)
    ∙ unasked (b / WORD_BLOCKS == word) (bit_at mask (b % WORD_BLOCKS) == 1) (times b (range_with_len (WORD_BLOCKS * word) 64)) (ne_eqb (b / WORD_BLOCKS) word ne)

-- what a filter leaves of a block that stands there once at most, by a bit that takes it out
left_by_bit : (t : Bool) (m x : ℕ) → t ≡ true → m < 2 → x < 2 → cond (not (t && (m == 1))) x 0 ≡ x - m
left_by_bit true zero x e l h = omega arith
left_by_bit true (suc zero) x e l h = omega arith
left_by_bit true (suc (suc m)) x e l h = absurd (omega arith)
left_by_bit false m x e l h = absurd (true≢false (sym e))

left_whole : (t u : Bool) (x : ℕ) → t ≡ false → cond (not (t && u)) x 0 ≡ x
left_whole false u x e = refl
left_whole true u x e = absurd (true≢false e)

left_by_count : (m x : ℕ) → m ≤ x → x < 2 → cond (m == 0) x 0 ≡ x - m
left_by_count zero x l h = omega arith
left_by_count (suc m) x l h = let off = ap (λ (t : Bool). cond t x 0) (ne_eqb (suc m) 0 (λ e. omega arith)) in off ∙ omega arith

pub times-without_here : (word mask b : ℕ) (xs : List ℕ) → b / WORD_BLOCKS ≡ word → times b xs < 2 → times b (without_mask word mask xs) ≡ times b xs - bit_at mask (b % WORD_BLOCKS)
times-without_here word mask b xs e once =
    times-filter (λ c. not (is_named word mask c)) b xs ∙ left_by_bit (b / WORD_BLOCKS == word) (bit_at mask (b % WORD_BLOCKS)) (times b xs) (eq-eqb (b / WORD_BLOCKS) word e) (bit_at-lt mask (b % WORD_BLOCKS)) once

pub times-without_else : (word mask b : ℕ) (xs : List ℕ) → b / WORD_BLOCKS ≢ word → times b (without_mask word mask xs) ≡ times b xs
times-without_else word mask b xs ne =
    times-filter (λ c. not (is_named word mask c)) b xs ∙ left_whole (b / WORD_BLOCKS == word) (bit_at mask (b % WORD_BLOCKS) == 1) (times b xs) (ne_eqb (b / WORD_BLOCKS) word ne)

pub times-without_blocks : (taken : List ℕ) (b : ℕ) (xs : List ℕ) → times b taken ≤ times b xs → times b xs < 2 → times b (without_blocks taken xs) ≡ times b xs - times b taken
times-without_blocks taken b xs le once = times-filter (λ c. times c taken == 0) b xs ∙ left_by_count (times b taken) (times b xs) le once
