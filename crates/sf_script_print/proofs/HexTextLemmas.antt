-- Hex digits: a byte's two digits are read as the byte.
use Rattle.std.proofs.Common.{◌≡◌, ℕ, zero, suc, ◌/◌, ◌%◌, ◌<◌, Bool, true, ◌&&◌, List, [], ◌∷◌, inl, inr, refl, arith}
use Rattle.std.specs.Prelude.{slice_index, ◌==◌, nat_lt}
use Rattle.std.specs.List.{list_all}
use Rattle.std.proofs.lemmas.Bool.{and_parts, cases_lt, ltb-true}
use Rattle.hex.specs.Hex.{encode_lower, encode_with, lower_digits}
use Rattle.sf_types.proofs.NumberLemmas.{same_number}
use Rattle.sf_script.specs.Lines.{is_line_byte}
use Rattle.sf_script_calls.specs.Payloads.{is_hex_digit, hex_value, hex_byte, hex_bytes}

-- a byte is below 256
abbrev pub is_byte : ℕ → Bool
is_byte byte = nat_lt byte 256

-- the digit of a value is a hex digit of that value, and may stand in a line
abbrev is_digit_of : ℕ → Bool
is_digit_of value = is_hex_digit (slice_index lower_digits value) && (is_line_byte (slice_index lower_digits value) && hex_value (slice_index lower_digits value) == value)

abbrev are_digits_below : ℕ → Bool
are_digits_below zero = true
are_digits_below (suc n) = is_digit_of n && are_digits_below n

digit_at : (n value : ℕ) → are_digits_below n ≡ true → value < n → is_digit_of value ≡ true
digit_at zero value all lt = absurd (omega arith)
digit_at (suc n) value all lt =
    let parts = and_parts (is_digit_of n) (are_digits_below n) all in
    elim (cases_lt value n) [
      | inl below ↦ digit_at n value parts.1 below
      | inr top ↦
          let e : value ≡ n = omega arith in
          rw e parts.0
    ]

pub record IsDigitOf (value : ℕ) : Type 0 where
  pub is_hex : is_hex_digit (slice_index lower_digits value) ≡ true
  pub in_line : is_line_byte (slice_index lower_digits value) ≡ true
  pub back : hex_value (slice_index lower_digits value) ≡ value

pub digit_of : (value : ℕ) → value < 16 → IsDigitOf value
digit_of value lt =
    let a = and_parts (is_hex_digit (slice_index lower_digits value)) (is_line_byte (slice_index lower_digits value) && hex_value (slice_index lower_digits value) == value) (digit_at 16 value refl lt) in
    let b = and_parts (is_line_byte (slice_index lower_digits value)) (hex_value (slice_index lower_digits value) == value) a.1 in
    record { is_hex = a.0; in_line = b.0; back = same_number (hex_value (slice_index lower_digits value)) value b.1 }

pub byte_back : (byte : ℕ) → byte < 256 → hex_byte (slice_index lower_digits (byte / 16)) (slice_index lower_digits (byte % 16)) ≡ byte
byte_back byte lt =
    let high = (digit_of (byte / 16) (omega arith)).back in
    let low = (digit_of (byte % 16) (omega arith)).back in
    rw (high, low) (omega arith)

pub bytes_back : (bytes : List ℕ) → list_all is_byte bytes ≡ true → hex_bytes (encode_lower bytes) ≡ bytes
unfolding encode_with
bytes_back [] all = refl
bytes_back (byte ∷ bytes) all =
    let p = and_parts (is_byte byte) (list_all is_byte bytes) all in
    rw (byte_back byte (ltb-true byte 256 p.0), bytes_back bytes p.1) refl

pub are_hex_digits : (bytes : List ℕ) → list_all is_byte bytes ≡ true → list_all is_hex_digit (encode_lower bytes) ≡ true
unfolding encode_with
are_hex_digits [] all = refl
are_hex_digits (byte ∷ bytes) all =
    let p = and_parts (is_byte byte) (list_all is_byte bytes) all in
    let lt = ltb-true byte 256 p.0 in
    let high = (digit_of (byte / 16) (omega arith)).is_hex in
    let low = (digit_of (byte % 16) (omega arith)).is_hex in
    rw (high, low) (are_hex_digits bytes p.1)

pub hex_in_line : (bytes : List ℕ) → list_all is_byte bytes ≡ true → list_all is_line_byte (encode_lower bytes) ≡ true
unfolding encode_with
hex_in_line [] all = refl
hex_in_line (byte ∷ bytes) all =
    let p = and_parts (is_byte byte) (list_all is_byte bytes) all in
    let lt = ltb-true byte 256 p.0 in
    let high = (digit_of (byte / 16) (omega arith)).in_line in
    let low = (digit_of (byte % 16) (omega arith)).in_line in
    rw (high, low) (hex_in_line bytes p.1)
