-- The first refusal of two lists, one after the other.
use Rattle.std.proofs.Common.{◌≡◌, Bool, true, false, cond, List, [], ◌∷◌, ◌++◌, Some, None, refl}
use Rattle.sf_types.specs.declared.reply.Fault.{Fault}
use Rattle.sf_types.specs.Calls.Refusals.{first_refusal}

-- a refusal of the first list is that of both
pub refused_first : (xs ys : List (Bool × Fault)) (f : Fault) → first_refusal xs ≡ Some f → first_refusal (xs ++ ys) ≡ Some f
refused_first [] ys f is = absurd cc
refused_first (t ∷ xs) ys f is =
    elim t.0 as (λ b. cond b (Some t.1) (first_refusal xs) ≡ Some f → cond b (Some t.1) (first_refusal (xs ++ ys)) ≡ Some f) [
      | true ↦ λ here. here
      | false ↦ λ later. refused_first xs ys f later
    ] is

-- where nothing of the first list refuses, the second decides
pub refused_then : (xs ys : List (Bool × Fault)) → first_refusal xs ≡ None → first_refusal (xs ++ ys) ≡ first_refusal ys
refused_then [] ys is = refl
refused_then (t ∷ xs) ys is =
    elim t.0 as (λ b. cond b (Some t.1) (first_refusal xs) ≡ None → cond b (Some t.1) (first_refusal (xs ++ ys)) ≡ first_refusal ys) [
      | true ↦ λ here. absurd cc
      | false ↦ λ later. refused_then xs ys later
    ] is
