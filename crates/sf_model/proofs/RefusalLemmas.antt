-- The first refusal of two lists, one after the other.
use Rattle.std.proofs.Common.{◌≡◌, Bool, true, false, cond, List, [], ◌∷◌, ◌++◌, Option, Some}
use Rattle.sf_types.specs.declared.reply.Fault.{Fault}
use Rattle.sf_types.specs.Calls.Refusals.{first_refusal}

by_test : (b : Bool) (g f : Fault) (x y : Option Fault) → (x ≡ Some f → y ≡ Some f) → cond b (Some g) x ≡ Some f → cond b (Some g) y ≡ Some f
by_test true g f x y on h = h
by_test false g f x y on h = on h

pub first_of-append : (xs ys : List (Bool × Fault)) (f : Fault) → first_refusal xs ≡ Some f → first_refusal (xs ++ ys) ≡ Some f
first_of-append [] ys f h = absurd cc
first_of-append (t ∷ xs) ys f h = by_test t.0 t.1 f (first_refusal xs) (first_refusal (xs ++ ys)) (first_of-append xs ys f) h
