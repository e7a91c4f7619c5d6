-- A printed payload is read as its bytes.
use Rattle.std.proofs.Common.{◌≡◌, ℕ, zero, suc, ◌-◌, ◌/◌, ◌%◌, ◌^◌, ◌<◌, ◌≤◌, Bool, true, false, ◌&&◌, cond, List, [], ◌∷◌, ◌++◌, length, drop, get_or, replicate, Some, None, refl, sym, ap, ◌∙◌, arith, inl, inr}
use Rattle.std.specs.Prelude.{slice_index, ◌==◌, nat_le}
use Rattle.std.specs.Fmt.{decimal}
use Rattle.std.specs.List.{list_all, slice_range}
use Rattle.std.proofs.Math.Seq.{take-append_seam, drop-append_seam, get_or-append_seam}
use Rattle.std.proofs.lemmas.Bool.{and_parts, cases_Bool, ltb-true, le-leb}
use Rattle.std.proofs.lemmas.Fmt.{decimal_nonempty}
use Rattle.std.proofs.lemmas.List.{length-append, get_or_append_left, append_assoc}
use Rattle.hex.specs.Hex.{encode_lower, encode_with, lower_digits}
use Rattle.hex.proofs.HexLemmas.{length-encode_with}
use Rattle.sf_types.proofs.NumberLemmas.{same_number, at_most, other_number}
use Rattle.sf_script_calls.specs.Numbers.{is_digit}
use Rattle.sf_script_calls.specs.Payloads.{Payload, Text, Hex, Copies, is_text_byte, is_hex_digit, bytes_of, text_of, hex_of, star_byte_of, copies_of, payload_of}
use Rattle.sf_script_print.specs.PrintedCalls.{are_equal_bytes, printed_payload}
use Rattle.sf_script_print.proofs.HexTextLemmas.{is_byte, digit_of, byte_back, bytes_back, are_hex_digits}
use Rattle.sf_script_print.proofs.NumberTextLemmas.{read_number, is_of_digits}

-- at least 3 equal bytes
abbrev pub are_many : List ℕ → Bool
are_many bytes = nat_le 3 (length bytes) && are_equal_bytes bytes

-- how a payload is printed
pub data PayloadPrint (bytes : List ℕ) : Type 0 where
  AsCopies : (byte : ℕ) → 3 ≤ length bytes → bytes ≡ replicate (length bytes) byte → printed_payload bytes ≡ decimal (length bytes) ++ 42 ∷ 120 ∷ encode_lower (byte ∷ []) → PayloadPrint bytes
  AsText : are_many bytes ≡ false → list_all is_text_byte bytes ≡ true → printed_payload bytes ≡ 34 ∷ bytes ++ 34 ∷ [] → PayloadPrint bytes
  AsHex : are_many bytes ≡ false → list_all is_text_byte bytes ≡ false → printed_payload bytes ≡ 120 ∷ encode_lower bytes → PayloadPrint bytes

all_same : (byte : ℕ) (bytes : List ℕ) → list_all (λ other. other == byte) bytes ≡ true → bytes ≡ replicate (length bytes) byte
all_same byte [] all = refl
all_same byte (other ∷ bytes) all =
    let p = and_parts (other == byte) (list_all (λ other. other == byte) bytes) all in
    rw (same_number other byte p.0, ← all_same byte bytes p.1) refl

many : (bytes : List ℕ) → are_many bytes ≡ true → PayloadPrint bytes
unfolding printed_payload
many [] is = absurd cc
many (byte ∷ bytes) is =
    let p = and_parts (nat_le 3 (length (byte ∷ bytes))) (are_equal_bytes (byte ∷ bytes)) is in
    AsCopies byte (at_most 3 (length (byte ∷ bytes)) p.0) (ap (λ (xs : List ℕ). byte ∷ xs) (all_same byte bytes p.1)) (rw is (append_assoc (decimal (length (byte ∷ bytes))) (42 ∷ 120 ∷ []) (encode_lower (byte ∷ []))))

few : (bytes : List ℕ) → are_many bytes ≡ false → PayloadPrint bytes
unfolding printed_payload
few bytes is = elim (cases_Bool (list_all is_text_byte bytes)) [
  | inl text ↦ AsText is text (rw (is, text) refl)
  | inr other ↦ AsHex is other (rw (is, other) refl)
]

pub payload_print : (bytes : List ℕ) → PayloadPrint bytes
payload_print bytes = elim (cases_Bool (are_many bytes)) [
  | inl is ↦ many bytes is
  | inr is ↦ few bytes is
]

-- the payload that a text is read as
pub record IsReadAs (text bytes : List ℕ) : Type 0 where
  pub payload : Payload
  pub read : payload_of text ≡ Some payload
  pub same : bytes_of payload ≡ bytes

second_false : (a b c d : Bool) → b ≡ false → (a && b && c && d) ≡ false
second_false true false c d e = refl
second_false false false c d e = refl
second_false a true c d e = absurd cc

none_if : {X : Type 0} (b : Bool) (x : X) → b ≡ false → cond b (Some x) None ≡ None
none_if true x e = absurd cc
none_if false x e = refl

no_text : (text : List ℕ) → (slice_index text 0 == 34) ≡ false → text_of text ≡ None
unfolding text_of
no_text text e =
    let inner = slice_range text 1 (length text - 1) in
    none_if (nat_le 3 (length text) && slice_index text 0 == 34 && slice_index text (length text - 1) == 34 && list_all is_text_byte inner) (Text inner)
    (second_false (nat_le 3 (length text)) (slice_index text 0 == 34) (slice_index text (length text - 1) == 34) (list_all is_text_byte inner) e)

no_hex : (text : List ℕ) → (slice_index text 0 == 120) ≡ false → hex_of text ≡ None
unfolding hex_of
no_hex text e =
    let inner = drop 1 text in
    none_if (nat_le 3 (length text) && slice_index text 0 == 120 && length inner % 2 == 0 && list_all is_hex_digit inner) (Hex inner)
    (second_false (nat_le 3 (length text)) (slice_index text 0 == 120) (length inner % 2 == 0) (list_all is_hex_digit inner) e)

-- a text in quotes
quoted_inner : (bytes : List ℕ) → slice_range (34 ∷ bytes ++ 34 ∷ []) 1 (length (34 ∷ bytes ++ 34 ∷ []) - 1) ≡ bytes
quoted_inner bytes =
    let size : length (34 ∷ bytes ++ 34 ∷ []) - 1 - 1 ≡ length bytes = omega (arith, length-append bytes (34 ∷ [])) in
    rw size (take-append_seam bytes (34 ∷ []))

quoted_last : (bytes : List ℕ) → slice_index (34 ∷ bytes ++ 34 ∷ []) (length (34 ∷ bytes ++ 34 ∷ []) - 1) ≡ 34
quoted_last bytes =
    let size : length (34 ∷ bytes ++ 34 ∷ []) - 1 ≡ suc (length bytes) = omega (arith, length-append bytes (34 ∷ [])) in
    rw size (get_or-append_seam bytes 34 [] 0)

read_quoted : (bytes : List ℕ) → 1 ≤ length bytes → list_all is_text_byte bytes ≡ true → text_of (34 ∷ bytes ++ 34 ∷ []) ≡ Some (Text bytes)
unfolding text_of
read_quoted bytes some all =
    let large : nat_le 3 (length (34 ∷ bytes ++ 34 ∷ [])) ≡ true = le-leb 3 (length (34 ∷ bytes ++ 34 ∷ [])) (omega (arith, length-append bytes (34 ∷ []))) in
    rw (large, quoted_last bytes, quoted_inner bytes, all) refl

quoted : (bytes : List ℕ) → 1 ≤ length bytes → list_all is_text_byte bytes ≡ true → IsReadAs (34 ∷ bytes ++ 34 ∷ []) bytes
unfolding payload_of
quoted bytes some all = record { payload = Text bytes; read = rw (read_quoted bytes some all) refl; same = refl }

-- hex digits
read_digits : (bytes : List ℕ) → 1 ≤ length bytes → list_all is_byte bytes ≡ true → hex_of (120 ∷ encode_lower bytes) ≡ Some (Hex (encode_lower bytes))
unfolding hex_of
read_digits bytes some all =
    let size = length-encode_with lower_digits bytes in
    let large : nat_le 3 (length (120 ∷ encode_lower bytes)) ≡ true = le-leb 3 (length (120 ∷ encode_lower bytes)) (omega (arith, size)) in
    let even : length (encode_lower bytes) % 2 ≡ 0 = omega (arith, size) in
    rw (large, even, are_hex_digits bytes all) refl

digits : (bytes : List ℕ) → 1 ≤ length bytes → list_all is_byte bytes ≡ true → IsReadAs (120 ∷ encode_lower bytes) bytes
unfolding payload_of
digits bytes some all = record {
  payload = Hex (encode_lower bytes);
  read = rw (no_text (120 ∷ encode_lower bytes) refl, read_digits bytes some all) refl;
  same = bytes_back bytes all;
}

-- copies
first_digit : (text : List ℕ) → list_all is_digit text ≡ true → 0 < length text → is_digit (get_or text 0 0) ≡ true
first_digit [] all lt = absurd (omega arith)
first_digit (digit ∷ text) all lt = (and_parts (is_digit digit) (list_all is_digit text) all).0

no_digit : (digit other : ℕ) → is_digit digit ≡ true → is_digit other ≡ false → (digit == other) ≡ false
no_digit digit other is none = other_number digit other (λ same. let wrong : is_digit other ≡ true = rw same at is in absurd cc)

star : (byte : ℕ) → byte < 256 → star_byte_of (42 ∷ 120 ∷ encode_lower (byte ∷ [])) ≡ Some byte
unfolding star_byte_of encode_with
star byte lt =
    let high = digit_of (byte / 16) (omega arith) in
    let low = digit_of (byte % 16) (omega arith) in
    rw (high.is_hex, low.is_hex) (ap Some (byte_back byte lt))

read_copies : (number byte : ℕ) → 1 ≤ number → number < 2 ^ 64 → byte < 256 → copies_of (decimal number ++ 42 ∷ 120 ∷ encode_lower (byte ∷ [])) ≡ Some (Copies number byte)
unfolding copies_of
read_copies number byte some lt low =
    let end = 42 ∷ 120 ∷ encode_lower (byte ∷ []) in
    let size : length (decimal number ++ end) - 4 ≡ length (decimal number) = omega (arith, length-append (decimal number) end, length-encode_with lower_digits (byte ∷ [])) in
    rw (size, take-append_seam (decimal number) end, drop-append_seam (decimal number) end, read_number number (omega arith) lt, star byte low, le-leb 1 number some) refl

repeated : (number byte : ℕ) (bytes : List ℕ) → bytes ≡ replicate number byte → 1 ≤ number → number < 2 ^ 64 → byte < 256 → IsReadAs (decimal number ++ 42 ∷ 120 ∷ encode_lower (byte ∷ [])) bytes
unfolding payload_of
repeated number byte bytes equal some lt low =
    let text = decimal number ++ 42 ∷ 120 ∷ encode_lower (byte ∷ []) in
    let nonempty = decimal_nonempty number lt in
    let first : slice_index text 0 ≡ get_or (decimal number) 0 0 = get_or_append_left (decimal number) (42 ∷ 120 ∷ encode_lower (byte ∷ [])) 0 0 nonempty in
    let digit : is_digit (slice_index text 0) ≡ true = ap is_digit first ∙ first_digit (decimal number) (is_of_digits number lt) nonempty in
    record {
      payload = Copies number byte;
      read = rw (no_text text (no_digit (slice_index text 0) 34 digit refl), no_hex text (no_digit (slice_index text 0) 120 digit refl)) (read_copies number byte some lt low);
      same = sym equal;
    }

byte_of_copies : (number byte : ℕ) → 1 ≤ number → list_all is_byte (replicate number byte) ≡ true → byte < 256
byte_of_copies zero byte some all = absurd (omega arith)
byte_of_copies (suc number) byte some all = ltb-true byte 256 (and_parts (is_byte byte) (list_all is_byte (replicate number byte)) all).0

-- a printed payload is read as its bytes
pub read_payload : (bytes : List ℕ) → 1 ≤ length bytes → length bytes < 2 ^ 64 → list_all is_byte bytes ≡ true → IsReadAs (printed_payload bytes) bytes
read_payload bytes some lt all = elim (payload_print bytes) [
  | AsCopies byte large equal is ↦ rw is (repeated (length bytes) byte bytes equal some lt (byte_of_copies (length bytes) byte some (rw (← equal) all)))
  | AsText few text is ↦ rw is (quoted bytes some text)
  | AsHex few other is ↦ rw is (digits bytes some all)
]
