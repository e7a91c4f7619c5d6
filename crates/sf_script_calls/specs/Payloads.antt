-- Payloads, in three forms (our own).
use Rattle.std.specs.Prelude.{ℕ, ◌+◌, ◌-◌, ◌*◌, ◌%◌, Bool, not, ◌&&◌, ◌||◌, ◌==◌, nat_le, List, [], ◌∷◌, length, take, drop, slice_index, replicate, Option, Some, None, if◌then◌else◌}
use Rattle.std.specs.Option.{option_or}
use Rattle.std.specs.List.{list_all, slice_range}
use Rattle.sf_types.specs.Values.Names.{is_between}
use Rattle.sf_script_calls.specs.Reads.{◌>>=◌}
use Rattle.sf_script_calls.specs.Numbers.{is_digit, number_of}

-- How a payload is spelled: as a text, as hex digits, or as a number of copies of one byte.
pub data Payload : Type 0 where
  Text : List ℕ → Payload
  Hex : List ℕ → Payload
  Copies : ℕ → ℕ → Payload

-- A text may hold the bytes 0x20 to 0x7E other than the quote.
abbrev pub is_text_byte : ℕ → Bool
is_text_byte byte = is_between 32 126 byte && not (byte == 34)

-- Hex digits are `0` to `9` and `a` to `f`.
abbrev pub is_hex_digit : ℕ → Bool
is_hex_digit byte = is_digit byte || is_between 97 102 byte

-- The value of a hex digit.
abbrev pub hex_value : ℕ → ℕ
hex_value digit = if is_digit digit then digit - 48 else digit - 87

-- Two hex digits are a byte.
abbrev pub hex_byte : ℕ → ℕ → ℕ
hex_byte high low = 16 * hex_value high + hex_value low

-- The bytes of pairs of hex digits.
abbrev pub hex_bytes : List ℕ → List ℕ
hex_bytes [] = []
hex_bytes (high ∷ []) = []
hex_bytes (high ∷ low ∷ digits) = hex_byte high low ∷ hex_bytes digits

-- The bytes of a payload.
abbrev pub bytes_of : Payload → List ℕ
bytes_of (Text bytes) = bytes
bytes_of (Hex digits) = hex_bytes digits
bytes_of (Copies number byte) = replicate number byte

-- `"TEXT"`: one or more bytes between two quotes.
unfoldable pub text_of : List ℕ → Option Payload
text_of text =
    let inner = slice_range text 1 (length text - 1) in
    if nat_le 3 (length text) && slice_index text 0 == 34 && slice_index text (length text - 1) == 34 && list_all is_text_byte inner
    then Some (Text inner)
    else None

-- `xHEX`: an x, and one or more pairs of hex digits.
unfoldable pub hex_of : List ℕ → Option Payload
hex_of text =
    let digits = drop 1 text in
    if nat_le 3 (length text) && slice_index text 0 == 120 && length digits % 2 == 0 && list_all is_hex_digit digits
    then Some (Hex digits)
    else None

-- `*xHH`: a star, an x, and the two digits of a byte.
unfoldable pub star_byte_of : List ℕ → Option ℕ
star_byte_of text =
    if length text == 4 && slice_index text 0 == 42 && slice_index text 1 == 120 && is_hex_digit (slice_index text 2) && is_hex_digit (slice_index text 3)
    then Some (hex_byte (slice_index text 2) (slice_index text 3)) else None

-- `N*xHH`: a number that is at least 1, and `*xHH`.
unfoldable pub copies_of : List ℕ → Option Payload
copies_of text = do
  number ← number_of (take (length text - 4) text)
  byte ← star_byte_of (drop (length text - 4) text)
  if nat_le 1 number then Some (Copies number byte) else None

-- A payload has one of the three forms.
unfoldable pub payload_of : List ℕ → Option Payload
payload_of text = option_or (text_of text) (option_or (hex_of text) (copies_of text))
