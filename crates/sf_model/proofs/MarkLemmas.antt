-- Fresh bytes without their marks.
use Rattle.std.proofs.Common.{◌≡◌, ℕ, List, [], ◌∷◌, map, refl, ap}
use Rattle.sf_types.specs.Values.Marks.{fresh_bytes}

pub bytes_of-fresh : (xs : List ℕ) → map (λ m. m.byte) (fresh_bytes xs) ≡ xs
bytes_of-fresh [] = refl
bytes_of-fresh (x ∷ xs) = ap (λ (ys : List ℕ). x ∷ ys) (bytes_of-fresh xs)
