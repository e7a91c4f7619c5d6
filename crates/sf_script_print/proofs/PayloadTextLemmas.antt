-- What a payload's text tells of its bytes.
use Rattle.std.proofs.Common.{◌≡◌, ℕ, ◌+◌, ◌-◌, ◌*◌, ◌%◌, ◌^◌, ◌<◌, ◌≤◌, true, ◌&&◌, List, [], ◌∷◌, length, take, drop, replicate, Option, Some, None, refl, sym, ap, ◌∙◌, arith, ◌⊎◌, inl, inr}
use Rattle.std.specs.Prelude.{slice_index, ◌==◌, nat_le}
use Rattle.std.specs.Fmt.{decimal}
use Rattle.std.specs.List.{list_all, slice_range}
use Rattle.std.specs.Option.{option_or}
use Rattle.std.proofs.lemmas.Bool.{and_parts, lt-ltb}
use Rattle.std.proofs.lemmas.Bool.Decides.{nat_tests}
use Rattle.std.proofs.lemmas.List.{length-take, length-drop, length-replicate}
use Rattle.std.proofs.lemmas.Option.{cond_some}
use Rattle.sf_types.proofs.NumberLemmas.{same_number, at_most}
use Rattle.sf_script_calls.specs.Numbers.{number_of}
use Rattle.sf_script_calls.specs.Payloads.{Payload, Text, Hex, Copies, is_text_byte, is_hex_digit, hex_value, hex_byte, hex_bytes, bytes_of, text_of, hex_of, star_byte_of, copies_of, payload_of}
use Rattle.sf_script_calls.specs.Reads.{◌>>=◌}
use Rattle.sf_script_calls.proofs.HexLemmas.{length-hex_bytes}
use Rattle.sf_script_print.proofs.HexTextLemmas.{is_byte}
use Rattle.sf_script_print.proofs.NumberTextLemmas.{number_text}

-- the first of two that is there
first_there : {X : Type 0} (a b : Option X) (x : X) → option_or a b ≡ Some x → (a ≡ Some x) ⊎ (b ≡ Some x)
first_there (Some y) b x e = inl e
first_there None b x e = inr e

-- what a field that is read gives
pub record IsRead {A B : Type 0} (field : Option A) (rest : A → Option B) (all : B) : Type 0 where
  pub item : A
  pub is : field ≡ Some item
  pub others : rest item ≡ Some all

pub read_field : {A B : Type 0} (field : Option A) (rest : A → Option B) (all : B) → (field >>= rest) ≡ Some all → IsRead field rest all
read_field (Some item) rest all e = record { item = item; is = refl; others = e }
read_field None rest all e = absurd cc

-- a text's bytes
pub record IsQuoted (text bytes : List ℕ) : Type 0 where
  pub size : length bytes + 2 ≡ length text
  pub some : 1 ≤ length bytes
  pub all : list_all is_text_byte bytes ≡ true

-- hex digits' bytes
pub record IsHexText (text bytes : List ℕ) : Type 0 where
  pub size : 2 * length bytes + 1 ≡ length text
  pub some : 1 ≤ length bytes
  pub all : list_all is_byte bytes ≡ true

-- copies of a byte
pub record IsCopies (text bytes : List ℕ) : Type 0 where
  pub byte : ℕ
  pub size : length (decimal (length bytes)) + 4 ≡ length text
  pub some : 1 ≤ length bytes
  pub below : length bytes < 2 ^ 64
  pub equal : bytes ≡ replicate (length bytes) byte
  pub low : byte < 256

pub data PayloadText (text bytes : List ℕ) : Type 0 where
  Quoted : IsQuoted text bytes → PayloadText text bytes
  Digits : IsHexText text bytes → PayloadText text bytes
  Repeated : IsCopies text bytes → PayloadText text bytes

quoted : (text : List ℕ) (payload : Payload) → text_of text ≡ Some payload → PayloadText text (bytes_of payload)
unfolding text_of
quoted text payload e =
    let inner = slice_range text 1 (length text - 1) in
    let p = cond_some (nat_le 3 (length text) && slice_index text 0 == 34 && slice_index text (length text - 1) == 34 && list_all is_text_byte inner) (Text inner) payload e in
    let c = and_parts (nat_le 3 (length text) && slice_index text 0 == 34 && slice_index text (length text - 1) == 34) (list_all is_text_byte inner) p.0 in
    let b = and_parts (nat_le 3 (length text) && slice_index text 0 == 34) (slice_index text (length text - 1) == 34) c.0 in
    let a = and_parts (nat_le 3 (length text)) (slice_index text 0 == 34) b.0 in
    let large = at_most 3 (length text) a.0 in
    let count : length inner + 2 ≡ length text = omega (arith, length-take (length text - 1 - 1) (drop 1 text), length-drop 1 text) in
    rw (← p.1) (Quoted (record { size = count; some = omega arith; all = c.1 }))

hex_low : (digit : ℕ) → is_hex_digit digit ≡ true → hex_value digit < 16
hex_low digit is = grind (arith, nat_tests)

pub hex_byte_low : (high low : ℕ) → is_hex_digit high ≡ true → is_hex_digit low ≡ true → hex_byte high low < 256
hex_byte_low high low a b = omega (arith, hex_low high a, hex_low low b)

are_bytes : (digits : List ℕ) → list_all is_hex_digit digits ≡ true → list_all is_byte (hex_bytes digits) ≡ true
are_bytes [] all = refl
are_bytes (high ∷ []) all = refl
are_bytes (high ∷ low ∷ digits) all =
    let p = and_parts (is_hex_digit high) (is_hex_digit low && list_all is_hex_digit digits) all in
    let q = and_parts (is_hex_digit low) (list_all is_hex_digit digits) p.1 in
    rw (lt-ltb (hex_byte high low) 256 (hex_byte_low high low p.0 q.0)) (are_bytes digits q.1)

digits : (text : List ℕ) (payload : Payload) → hex_of text ≡ Some payload → PayloadText text (bytes_of payload)
unfolding hex_of
digits text payload e =
    let inner = drop 1 text in
    let p = cond_some (nat_le 3 (length text) && slice_index text 0 == 120 && length inner % 2 == 0 && list_all is_hex_digit inner) (Hex inner) payload e in
    let c = and_parts (nat_le 3 (length text) && slice_index text 0 == 120 && length inner % 2 == 0) (list_all is_hex_digit inner) p.0 in
    let b = and_parts (nat_le 3 (length text) && slice_index text 0 == 120) (length inner % 2 == 0) c.0 in
    let a = and_parts (nat_le 3 (length text)) (slice_index text 0 == 120) b.0 in
    let large = at_most 3 (length text) a.0 in
    let even = same_number (length inner % 2) 0 b.1 in
    let half = length-hex_bytes inner in
    let count : 2 * length (hex_bytes inner) + 1 ≡ length text = omega (arith, half, even, length-drop 1 text) in
    rw (← p.1) (Digits (record { size = count; some = omega arith; all = are_bytes inner c.1 }))

star : (text : List ℕ) (byte : ℕ) → star_byte_of text ≡ Some byte → (length text ≡ 4) × (byte < 256)
unfolding star_byte_of
star text byte e =
    let high = slice_index text 2 in
    let low = slice_index text 3 in
    let p = cond_some (length text == 4 && slice_index text 0 == 42 && slice_index text 1 == 120 && is_hex_digit high && is_hex_digit low) (hex_byte high low) byte e in
    let d = and_parts (length text == 4 && slice_index text 0 == 42 && slice_index text 1 == 120 && is_hex_digit high) (is_hex_digit low) p.0 in
    let c = and_parts (length text == 4 && slice_index text 0 == 42 && slice_index text 1 == 120) (is_hex_digit high) d.0 in
    let b = and_parts (length text == 4 && slice_index text 0 == 42) (slice_index text 1 == 120) c.0 in
    let a = and_parts (length text == 4) (slice_index text 0 == 42) b.0 in
    (same_number (length text) 4 a.0, omega (arith, p.1, hex_byte_low high low c.1 d.1))

copies : (text : List ℕ) (payload : Payload) → copies_of text ≡ Some payload → PayloadText text (bytes_of payload)
unfolding copies_of
copies text payload e =
    let a = read_field (number_of (take (length text - 4) text)) _ payload e in
    let b = read_field (star_byte_of (drop (length text - 4) text)) _ payload a.others in
    let p = cond_some (nat_le 1 a.item) (Copies a.item b.item) payload b.others in
    let some = at_most 1 a.item p.0 in
    let number = number_text (take (length text - 4) text) a.item a.is in
    let end = star (drop (length text - 4) text) b.item b.is in
    let count = length-replicate a.item b.item in
    let size : length (decimal a.item) + 4 ≡ length text = omega (arith, ap length number.printed, end.0, length-take (length text - 4) text, length-drop (length text - 4) text) in
    rw (← p.1) (Repeated (record {
      byte = b.item;
      size = ap (λ (n : ℕ). length (decimal n) + 4) count ∙ size;
      some = omega (arith, count);
      below = omega (arith, count, number.below);
      equal = ap (λ (n : ℕ). replicate n b.item) (sym count);
      low = end.1;
    }))

pub payload_text : (text : List ℕ) (payload : Payload) → payload_of text ≡ Some payload → PayloadText text (bytes_of payload)
unfolding payload_of
payload_text text payload e =
    elim (first_there (text_of text) (option_or (hex_of text) (copies_of text)) payload e) [
      | inl is ↦ quoted text payload is
      | inr others ↦ elim (first_there (hex_of text) (copies_of text) payload others) [
        | inl is ↦ digits text payload is
        | inr is ↦ copies text payload is
      ]
    ]
