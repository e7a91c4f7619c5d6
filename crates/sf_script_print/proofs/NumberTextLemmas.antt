-- Numbers and their texts.
use Rattle.std.proofs.Common.{◌≡◌, ℕ, ◌^◌, ◌<◌, true, not, ◌&&◌, ltb, eqb, List, [], ◌∷◌, length, get_or, Some, refl, sym, ap, ◌∙◌, arith, rules}
use Rattle.std.specs.Fmt.{decimal}
use Rattle.std.specs.List.{list_all}
use Rattle.std.proofs.lemmas.Bool.{and_parts, ltb-true, lt-ltb}
use Rattle.std.proofs.lemmas.Fmt.{decimal-digits_value, digits_decimal, digits_value-decimal, decimal_nonempty, first_decimal}
use Rattle.std.proofs.lemmas.Option.{cond_some}
use Rattle.std.proofs.lemmas.Str.Parse.{IsNumeralModel, numerals_by_fold}
use Rattle.sf_types.proofs.NumberLemmas.{own_number, other_number}
use Rattle.sf_script_calls.specs.Numbers.{is_digit, value_after, has_leading_zero, is_empty_list, is_number, number_of}

pub numeral : IsNumeralModel (λ digits. list_all is_digit digits ≡ true) (value_after 0)
numeral = numerals_by_fold _ (search rules) value_after (search rules)

some_digit : (text : List ℕ) → not (is_empty_list text) ≡ true → 0 < length text
some_digit [] is = absurd cc
some_digit (digit ∷ text) is = omega arith

zero_alone : (text : List ℕ) → not (has_leading_zero text) ≡ true → get_or text 0 0 ≡ 48 → 0 < length text → length text ≡ 1
zero_alone [] is zero some = absurd (omega arith)
zero_alone (digit ∷ []) is zero some = refl
zero_alone (digit ∷ next ∷ text) is zero some =
    let here : eqb digit 48 ≡ true = rw zero (own_number 48) in
    absurd cc

-- what a text that is a number is
pub record IsNumberText (text : List ℕ) (number : ℕ) : Type 0 where
  pub printed : text ≡ decimal number
  pub below : number < 2 ^ 64

pub number_text : (text : List ℕ) (number : ℕ) → number_of text ≡ Some number → IsNumberText text number
unfolding number_of
number_text text number e =
    let p = cond_some (is_number text) (value_after 0 text) number e in
    let c = and_parts (not (is_empty_list text) && not (has_leading_zero text) && list_all is_digit text) (ltb (value_after 0 text) (2 ^ 64)) p.0 in
    let b = and_parts (not (is_empty_list text) && not (has_leading_zero text)) (list_all is_digit text) c.0 in
    let a = and_parts (not (is_empty_list text)) (not (has_leading_zero text)) b.0 in
    let small = ltb-true (value_after 0 text) (2 ^ 64) c.1 in
    let some = some_digit text a.0 in
    let whole = decimal-digits_value numeral text b.1 some (λ zero. zero_alone text a.1 zero some) small in
    record { printed = sym whole ∙ ap decimal p.1; below = omega (arith, p.1) }

-- a number is read from its text
no_zero : (text : List ℕ) → 48 < get_or text 0 0 → not (has_leading_zero text) ≡ true
no_zero [] lt = refl
no_zero (digit ∷ []) lt = refl
no_zero (digit ∷ next ∷ text) lt =
    rw (other_number digit 48 (λ same. omega arith)) refl

has_digit : (text : List ℕ) → 0 < length text → not (is_empty_list text) ≡ true
has_digit [] lt = absurd (omega arith)
has_digit (digit ∷ text) lt = refl

pub is_of_digits : (number : ℕ) → number < 2 ^ 64 → list_all is_digit (decimal number) ≡ true
is_of_digits number lt = digits_decimal numeral number lt

pub read_number : (number : ℕ) → 0 < number → number < 2 ^ 64 → number_of (decimal number) ≡ Some number
unfolding number_of
read_number number some lt =
    let value : value_after 0 (decimal number) ≡ number = digits_value-decimal numeral number lt in
    let below : ltb (value_after 0 (decimal number)) (2 ^ 64) ≡ true = lt-ltb (value_after 0 (decimal number)) (2 ^ 64) (omega (arith, value)) in
    rw (has_digit (decimal number) (decimal_nonempty number lt), no_zero (decimal number) (first_decimal number some lt), is_of_digits number lt, below) (ap Some value)
