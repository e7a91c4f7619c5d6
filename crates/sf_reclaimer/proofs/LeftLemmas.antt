-- What is left of a list of blocks without others.
use Rattle.std.proofs.Common.{◌≡◌, ◌==◌, ◌&&◌, ℕ, zero, suc, ◌+◌, ◌≤◌, Bool, true, false, cond, List, [], ◌∷◌, ◌++◌, refl, sym, ap, ◌∙◌, arith, filter, ne_eqb}
use Rattle.sf_space_words.specs.Blocks.{times, without_blocks, Covers, IsOnce}
use Rattle.sf_space_words.proofs.TimesLemmas.{times-append, times-without_blocks}

-- two tests that agree leave the same
pub filter_same : (p q : ℕ → Bool) → ((x : ℕ) → p x ≡ q x) → (xs : List ℕ) → filter p xs ≡ filter q xs
filter_same p q same [] = refl
filter_same p q same (x ∷ xs) = λ i. cond (same x i) (x ∷ filter_same p q same xs i) (filter_same p q same xs i)

both_step : (r : ℕ → Bool) (x : ℕ) (a b : Bool) (xs ys : List ℕ) → a ≡ (b && r x) → xs ≡ filter r ys → cond a (x ∷ xs) xs ≡ filter r (cond b (x ∷ ys) ys)
both_step r x a true xs ys e rest = λ i. cond (e i) (x ∷ rest i) (rest i)
both_step r x a false xs ys e rest = λ i. cond (e i) (x ∷ rest i) (rest i)

-- one test after another leaves what passes both
filter_both : (p q r : ℕ → Bool) → ((x : ℕ) → p x ≡ (q x && r x)) → (xs : List ℕ) → filter p xs ≡ filter r (filter q xs)
filter_both p q r both [] = refl
filter_both p q r both (x ∷ xs) = both_step r x (p x) (q x) (filter p xs) (filter q xs) (both x) (filter_both p q r both xs)

none_of_sum : (k m n : ℕ) → k ≡ m + n → (k == 0) ≡ ((m == 0) && (n == 0))
none_of_sum k zero n e = ap (λ (j : ℕ). j == 0) (omega (arith, e))
none_of_sum k (suc m) n e = ne_eqb k 0 (λ none. omega (arith, e, none)) ∙ ap (λ (t : Bool). t && (n == 0)) (sym (ne_eqb (suc m) 0 (λ none. omega arith)))

-- without some blocks, and then without others
pub without-append : (others more xs : List ℕ) → without_blocks (others ++ more) xs ≡ without_blocks more (without_blocks others xs)
without-append others more xs = filter_both (λ b. times b (others ++ more) == 0) (λ b. times b others == 0) (λ b. times b more == 0) (λ b. none_of_sum (times b (others ++ more)) (times b others) (times b more) (times-append b others more)) xs

pub without-none : (xs : List ℕ) → without_blocks [] xs ≡ xs
without-none [] = refl
without-none (x ∷ xs) = ap (λ (ys : List ℕ). x ∷ ys) (without-none xs)

-- where a list covers some blocks and more, it covers the others without the first
pub covers_more : (xs others more all : List ℕ) → IsOnce xs → ((b : ℕ) → times b others + times b more ≤ times b all) → Covers xs all → Covers (without_blocks others xs) more
covers_more xs others more all once within covers b =
    let c = covers b in
    let w = within b in
    let o = once b in
    let left = times-without_blocks others b xs (omega arith) (omega arith) in omega arith
