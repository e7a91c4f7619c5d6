-- Numbers in decimal (our own).
use Rattle.std.specs.Prelude.{ℕ, ◌+◌, ◌-◌, ◌*◌, ◌^◌, Bool, true, false, not, ◌&&◌, ◌==◌, nat_le, nat_lt, List, [], ◌∷◌, fold, Option, Some, None, if◌then◌else◌}
use Rattle.std.specs.List.{list_all}

-- The digits are `0` to `9`.
abbrev pub is_digit : ℕ → Bool
is_digit byte = nat_le 48 byte && nat_le byte 57

-- The number that digits spell, after the number that the digits before them spell.
abbrev pub value_after : ℕ → List ℕ → ℕ
value_after before digits = fold (λ number digit. number * 10 + (digit - 48)) before digits

-- A number is `0`, or has no leading zero.
abbrev pub has_leading_zero : List ℕ → Bool
has_leading_zero [] = false
has_leading_zero (digit ∷ []) = false
has_leading_zero (digit ∷ next ∷ digits) = digit == 48

-- Whether a list has no items.
abbrev pub is_empty_list : {X : Type 0} → List X → Bool
is_empty_list [] = true
is_empty_list (x ∷ xs) = false

-- Whether a text is a number below 2^64: one or more digits, the first no leading zero.
abbrev pub is_number : List ℕ → Bool
is_number text =
    not (is_empty_list text) && not (has_leading_zero text) && list_all is_digit text && nat_lt (value_after 0 text) (2 ^ 64)

-- The number of a text. None where the text isn't a number.
unfoldable pub number_of : List ℕ → Option ℕ
number_of text = if is_number text then Some (value_after 0 text) else None
