-- Cuts and settled bytes, one after another.
use Rattle.std.proofs.Common.{◌≡◌, ℕ, Some, None, suc, ◌+◌, ◌-◌, ◌<◌, List, [], ◌∷◌, ◌++◌, length, take, drop, refl, sym, ap, ◌∙◌, append_assoc, arith}
use Rattle.std.specs.Map.{keys_of}
use Rattle.sf_types.specs.Table.Parts.{Rows}
use Rattle.sf_types.specs.Space.Contents.{slices_of}
use Rattle.sf_types.specs.Space.Cuts.{contents_of_value, settle}

-- one slice more
pub next_slice : (size count k : ℕ) (done : List (List ℕ)) (rest : List ℕ) → k < count
    → (done ++ take size rest ∷ []) ++ slices_of size (count - (k + 1)) (drop size rest) ≡ done ++ slices_of size (count - k) rest
next_slice size count k done rest less =
    let more : count - k ≡ suc (count - (k + 1)) = omega (arith, less) in
    append_assoc done (take size rest ∷ []) (slices_of size (count - (k + 1)) (drop size rest))
    ∙ ap (λ n. done ++ slices_of size n rest) (sym more)

-- settled rows have the names that they had
pub settled_keys : (rows : Rows) (births : List ℕ) → keys_of (settle rows births) ≡ keys_of rows
settled_keys [] births = refl
settled_keys ((name, None) ∷ rows) births = ap (λ (ks : List (List ℕ)). name ∷ ks) (settled_keys rows births)
settled_keys ((name, Some v) ∷ rows) births = ap (λ (ks : List (List ℕ)). name ∷ ks) (settled_keys rows (drop (length (contents_of_value v)) births))
