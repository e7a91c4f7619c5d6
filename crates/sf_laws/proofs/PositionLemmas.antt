-- What stands at the places of a list after it was changed.
use Rattle.std.proofs.Common.{◌≡◌, ℕ, zero, suc, ◌+◌, ◌-◌, ◌<◌, List, [], ◌∷◌, length, take, drop, Some, refl, ap, ◌∙◌, arith}
use Rattle.std.specs.Prelude.{slice_get, slice_set}

pub get_set : {X : Type 0} (xs : List X) (i : ℕ) (y : X) → i < length xs → slice_get (slice_set xs i y) i ≡ Some y
get_set [] i y lt = absurd (omega arith)
get_set (x ∷ xs) zero y lt = refl
get_set (x ∷ xs) (suc i) y lt = get_set xs i y (omega arith)

pub get_set_other : {X : Type 0} (xs : List X) (i j : ℕ) (y : X) → (i ≡ j → ⊥) → slice_get (slice_set xs i y) j ≡ slice_get xs j
get_set_other [] i j y apart = refl
get_set_other (x ∷ xs) zero zero y apart = absurd (apart refl)
get_set_other (x ∷ xs) zero (suc j) y apart = refl
get_set_other (x ∷ xs) (suc i) zero y apart = refl
get_set_other (x ∷ xs) (suc i) (suc j) y apart = get_set_other xs i j y (λ same. apart (ap (λ n. suc n) same))

-- the first item that is left, and the rest
pub at_drop : {X : Type 0} (xs : List X) (i : ℕ) (y : X) (ys : List X) → drop i xs ≡ y ∷ ys → (slice_get xs i ≡ Some y) × (drop (i + 1) xs ≡ ys)
at_drop [] zero y ys is = absurd cc
at_drop [] (suc i) y ys is = absurd cc
at_drop (x ∷ xs) zero y ys is = (cc, cc)
at_drop (x ∷ xs) (suc i) y ys is =
    let rest = at_drop xs i y ys is in
    let next : suc i + 1 ≡ suc (i + 1) = omega arith in
    (rest.0, ap (λ n. drop n (x ∷ xs)) next ∙ rest.1)

take_of_none : (X : Type 0) (k : ℕ) → [] ≡ take {A = X} k []
take_of_none X zero = refl
take_of_none X (suc k) = refl

pub drop_of_take : {X : Type 0} (n m : ℕ) (xs : List X) → drop n (take m xs) ≡ take (m - n) (drop n xs)
drop_of_take zero m xs = let same : m ≡ m - 0 = omega arith in ap (λ k. take k xs) same
drop_of_take {X} (suc n) zero [] = take_of_none X (0 - suc n)
drop_of_take {X} (suc n) (suc m) [] = take_of_none X (suc m - suc n)
drop_of_take (suc n) zero (x ∷ xs) = let past : 0 ≡ 0 - suc n = omega arith in ap (λ k. take k (drop n xs)) past
drop_of_take (suc n) (suc m) (x ∷ xs) = let less : m - n ≡ suc m - suc n = omega arith in drop_of_take n m xs ∙ ap (λ k. take k (drop n xs)) less
