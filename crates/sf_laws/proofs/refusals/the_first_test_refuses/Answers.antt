use Rattle.std.proofs.Common.{◌≡◌, Bool, true, false, ◌||◌, cond, List, [], ◌∷◌, ◌++◌, Option, Some, None, refl}
use Rattle.std.specs.List.{list_any}
use Rattle.sf_types.specs.declared.reply.Fault.{Fault}
use Rattle.sf_types.specs.Calls.Refusals.{first_refusal}
use Rattle.sf_laws.proofs.refusals.the_first_test_refuses.Goals as goal

passed : (b others : Bool) (g : Fault) (o p : Option Fault) → (b || others) ≡ false → (others ≡ false → o ≡ p) → cond {A = Option Fault} b (Some g) o ≡ p
passed true others g o p none rest = absurd cc
passed false others g o p none rest = rest none

first-is : (before after : List (Bool × Fault)) (f : Fault) → list_any (λ test. test.0) before ≡ false → first_refusal (before ++ (true, f) ∷ after) ≡ Some f
first-is [] after f none = refl
first-is (test ∷ before) after f none = passed test.0 (list_any (λ test. test.0) before) test.1 (first_refusal (before ++ (true, f) ∷ after)) (Some f) none (first-is before after f)

none-is : (tests : List (Bool × Fault)) → list_any (λ test. test.0) tests ≡ false → first_refusal tests ≡ None
none-is [] none = refl
none-is (test ∷ tests) none = passed test.0 (list_any (λ test. test.0) tests) test.1 (first_refusal tests) None none (none-is tests)

pub returns-clause-first : goal.returns-clause-first
returns-clause-first c = first-is

pub returns-clause-none : goal.returns-clause-none
returns-clause-none c = none-is
