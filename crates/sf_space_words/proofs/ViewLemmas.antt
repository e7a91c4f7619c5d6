-- How often a block stands in all views, and the bit of a block, after one view or one word changed.
use Rattle.std.proofs.Common.{◌≡◌, ◌≢◌, ℕ, zero, suc, ◌+◌, ◌/◌, ◌%◌, ◌<◌, ◌≤◌, List, [], ◌∷◌, length, get_or, set, sym, ap, ◌∙◌, arith, get_or-set_same, get_or-set_other}
use mathlib.Core.Option.{some, some-injective, some-ne-none}
use lib.ListN.{get_elem?}
use Rattle.std.specs.Int.{bit_at}
use Rattle.std.proofs.lemmas.List.Sums.{sum_by-cons}
use Rattle.sf_space_words.specs.declared.limits.TheConstants.{WORD_BLOCKS}
use Rattle.sf_space_words.specs.declared.view.View.{View}
use Rattle.sf_space_words.specs.Blocks.{times, bit_of}
use Rattle.sf_space_words.specs.Rule.{times_in_views}

pub total_set : (b : ℕ) (views : List View) (id : ℕ) (v w : View) → get_elem? views id ≡ some v → times_in_views b (set views id w) + times b v.blocks ≡ times_in_views b views + times b w.blocks
total_set b [] id v w e = absurd (some-ne-none v (sym e))
total_set b (x ∷ xs) zero v w e =
    let same : times b x.blocks ≡ times b v.blocks = ap (λ (u : View). times b u.blocks) (some-injective x v e) in
    omega (arith, sum_by-cons (λ (u : View). times b u.blocks) x xs, sum_by-cons (λ (u : View). times b u.blocks) w xs)
total_set b (x ∷ xs) (suc id) v w e =
    omega (arith, total_set b xs id v w e, sum_by-cons (λ (u : View). times b u.blocks) x xs, sum_by-cons (λ (u : View). times b u.blocks) x (set xs id w))

pub total_le : (b : ℕ) (views : List View) (id : ℕ) (v : View) → get_elem? views id ≡ some v → times b v.blocks ≤ times_in_views b views
total_le b [] id v e = absurd (some-ne-none v (sym e))
total_le b (x ∷ xs) zero v e =
    let same : times b x.blocks ≡ times b v.blocks = ap (λ (u : View). times b u.blocks) (some-injective x v e) in
    omega (arith, sum_by-cons (λ (u : View). times b u.blocks) x xs)
total_le b (x ∷ xs) (suc id) v e = omega (arith, total_le b xs id v e, sum_by-cons (λ (u : View). times b u.blocks) x xs)

pub bit_of_set : (words : List ℕ) (word n b : ℕ) → word < length words → b / WORD_BLOCKS ≡ word → bit_of (set words word n) b ≡ bit_at n (b % WORD_BLOCKS)
bit_of_set words word n b lt e = ap (λ (k : ℕ). bit_at k (b % WORD_BLOCKS)) (ap (λ (k : ℕ). get_or (set words word n) k 0) e ∙ get_or-set_same words word n 0 lt)

pub bit_of_else : (words : List ℕ) (word n b : ℕ) → b / WORD_BLOCKS ≢ word → bit_of (set words word n) b ≡ bit_of words b
bit_of_else words word n b ne = ap (λ (k : ℕ). bit_at k (b % WORD_BLOCKS)) (get_or-set_other words word (b / WORD_BLOCKS) n 0 ne)
