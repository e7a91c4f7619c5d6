-- The first place of a byte.
use Rattle.std.proofs.Common.{◌≡◌, ℕ, ◌≤◌, Bool, true, false, List, [], ◌∷◌, length, Some, None, refl, sym, arith}
use Rattle.std.specs.List.{position_or_len, slice_split}
use Rattle.std.proofs.lemmas.List.Sums.{position_or_len_is, fails_before_first}
use Rattle.std.proofs.lemmas.List.Splits.{slice_split_none}
use Rattle.memchr.specs.Find.{IsFirstByte}

is_false : (b : Bool) → ¬ (b ≡ true) → b ≡ false
is_false true h = absurd (h refl)
is_false false h = refl

-- where a byte passes, the first place is the one that was found
pub place_found : (test : ℕ → Bool) (text : List ℕ) (place : ℕ) → IsFirstByte test text (Some place) → place ≡ position_or_len test text
place_found test text place h =
    sym (position_or_len_is test text place 0 (omega (arith, h.0.high)) (λ k lt. is_false _ (h.0.before k (omega arith) lt)) (λ _. h.1))

-- where none passes, it is the length
pub place_missing : (test : ℕ → Bool) (text : List ℕ) → IsFirstByte test text None → length text ≡ position_or_len test text
place_missing test text h =
    sym (position_or_len_is test text (length text) 0 (omega arith) (λ k lt. is_false _ (h k (omega arith) lt)) (λ lt. absurd (omega arith)))

-- a text without such a byte is one part
pub one_part : (test : ℕ → Bool) (text : List ℕ) → length text ≤ position_or_len test text → slice_split test text ≡ text ∷ []
one_part test text le = slice_split_none test text (λ k d lt. fails_before_first test text k d (omega arith))
