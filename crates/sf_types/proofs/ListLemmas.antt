-- Items of lists.
use Rattle.std.proofs.Common.{◌≡◌, ℕ, zero, suc, ◌<◌, List, [], ◌∷◌, ◌++◌, length, take, drop, get_or, Some, refl, sym, ap, ◌∙◌, append_assoc, arith}
use Rattle.std.proofs.Math.Seq.{drop-cons}
use Rattle.std.proofs.lemmas.List.{take-append-drop}
use Rattle.std.specs.Prelude.{slice_get}
use Rattle.std.specs.List.{concat}

-- an item of the first of two lists
pub get-append : {X : Type 0} (xs ys : List X) (i : ℕ) → i < length xs → slice_get (xs ++ ys) i ≡ slice_get xs i
get-append [] ys i lt = absurd (omega arith)
get-append (x ∷ xs) ys zero lt = refl
get-append (x ∷ xs) ys (suc i) lt = get-append xs ys i (omega arith)

-- the item after all of a list
pub get_last : {X : Type 0} (xs : List X) (y : X) → slice_get (xs ++ y ∷ []) (length xs) ≡ Some y
get_last [] y = refl
get_last (x ∷ xs) y = get_last xs y

-- two lists of lists, joined end to end
pub concat-append : (xs ys : List (List ℕ)) → concat (xs ++ ys) ≡ concat xs ++ concat ys
concat-append [] ys = refl
concat-append (x ∷ xs) ys =
    ap (λ (zs : List ℕ). x ++ zs) (concat-append xs ys) ∙ sym (append_assoc x (concat xs) (concat ys))

-- a list in two parts, and the item between them
pub parts-at : {X : Type 0} (xs : List X) (at : ℕ) (d : X) → at < length xs → xs ≡ take at xs ++ get_or xs at d ∷ drop (suc at) xs
parts-at xs at d less = sym (take-append-drop at xs) ∙ ap (λ (ys : List _). take at xs ++ ys) (drop-cons xs at d less)
