-- The row of a session has a name.
use Rattle.std.proofs.Common.{◌≡◌, ℕ, ◌+◌, ◌^◌, ◌%◌, ◌<◌, ◌≤◌, Bool, true, false, ◌||◌, leb, List, [], ◌∷◌, ◌++◌, length, cond, Option, Some, None, refl, sym, subst, ◌∙◌, arith}
use Rattle.std.specs.Fmt.{decimal}
use Rattle.std.specs.List.{list_all}
use Rattle.std.specs.Option.{IsSome}
use Rattle.std.proofs.lemmas.Bool.{and_from, le-leb}
use Rattle.std.proofs.lemmas.Fmt.{decimal_by_steps, length-decimal-le}
use Rattle.std.proofs.lemmas.List.Folds.{list_all-append}
use Rattle.sf_types.specs.Values.Names.{is_between, is_name_byte, is_name, name_of}
use Rattle.sf_types.specs.declared.limits.TheConstants.{ROW_NAME_BYTES}
use Rattle.sf_script_generate.specs.GeneratedCalls.{row_of}

third : (a b c d e f : Bool) → c ≡ true → (a || b || c || d || e || f) ≡ true
third true b true d e f h = refl
third false true true d e f h = refl
third false false true d e f h = refl
third a b false d e f h = absurd cc

digit_names : (n : ℕ) → n < 10 → is_name_byte (48 + n) ≡ true
digit_names n lt =
    third (is_between 65 90 (48 + n)) (is_between 97 122 (48 + n)) (is_between 48 57 (48 + n)) _ _ _ (and_from (leb 48 (48 + n)) (leb (48 + n) 57) (le-leb 48 (48 + n) (omega arith)) (le-leb (48 + n) 57 (omega arith)))

more_names : (n : ℕ) (ds : List ℕ) → 10 ≤ n → list_all is_name_byte ds ≡ true → list_all is_name_byte (ds ++ (48 + n % 10) ∷ []) ≡ true
more_names n ds le each =
    list_all-append is_name_byte ds ((48 + n % 10) ∷ []) ∙ and_from _ _ each (and_from (is_name_byte (48 + n % 10)) true (digit_names (n % 10) (omega arith)) refl)

digits_name : (n : ℕ) → n < 2 ^ 64 → list_all is_name_byte (decimal n) ≡ true
digits_name n lt =
    decimal_by_steps (λ k ds. list_all is_name_byte ds ≡ true) (λ k below. and_from (is_name_byte (48 + k)) true (digit_names k below) refl) more_names n lt

some_if : (o : Option (List ℕ)) (b : Bool) (text : List ℕ) → o ≡ cond b (Some text) None → b ≡ true → IsSome o
some_if o true text is h = subst IsSome (sym is) refl
some_if o false text is h = absurd cc

-- a text that is a name gives one
pub some_name : (o : Option (List ℕ)) (text : List ℕ) → o ≡ name_of ROW_NAME_BYTES text → is_name ROW_NAME_BYTES text ≡ true → IsSome o
some_name o text is named = some_if o (is_name ROW_NAME_BYTES text) text is named

-- a row's name
pub row_is_name : (session : ℕ) → session < 2 ^ 16 → is_name ROW_NAME_BYTES (row_of session) ≡ true
row_is_name session lt =
    and_from _ _ (and_from _ _ (le-leb 1 (length (row_of session)) (omega arith)) (le-leb (length (row_of session)) 64 (omega (arith, length-decimal-le 5 session (omega arith) (omega arith) (omega arith))))) (digits_name session (omega arith))
