-- A printed payload is no longer than any text of a payload of its bytes, and its bytes may stand in a line.
use Rattle.std.proofs.Common.{◌≡◌, ℕ, zero, suc, ◌+◌, ◌*◌, ◌^◌, ◌<◌, ◌≤◌, Bool, true, false, List, [], ◌∷◌, ◌++◌, length, replicate, refl, sym, ap, ◌∙◌, arith, inl, inr}
use Rattle.std.specs.Prelude.{nat_le, ◌==◌}
use Rattle.std.specs.Fmt.{decimal}
use Rattle.std.specs.List.{list_all}
use Rattle.std.proofs.lemmas.Bool.{and_parts, cases_lt, le-leb}
use Rattle.std.proofs.lemmas.Bool.Decides.{nat_tests}
use Rattle.std.proofs.lemmas.Fmt.{length-decimal-le, decimal_nonempty}
use Rattle.std.proofs.lemmas.List.{length-append, length-replicate}
use Rattle.std.proofs.lemmas.List.Folds.{list_all-append}
use Rattle.hex.specs.Hex.{encode_lower, lower_digits}
use Rattle.hex.proofs.HexLemmas.{length-encode_with}
use Rattle.sf_types.proofs.NumberLemmas.{own_number}
use Rattle.sf_script.specs.Lines.{is_line_byte}
use Rattle.sf_script_calls.specs.Numbers.{is_digit}
use Rattle.sf_script_calls.specs.Payloads.{is_text_byte}
use Rattle.sf_script_print.specs.PrintedCalls.{are_equal_bytes, printed_payload}
use Rattle.sf_script_print.proofs.HexTextLemmas.{is_byte, hex_in_line}
use Rattle.sf_script_print.proofs.NumberTextLemmas.{is_of_digits}
use Rattle.sf_script_print.proofs.PayloadPrintLemmas.{are_many, AsCopies, AsText, AsHex, payload_print}
use Rattle.sf_script_print.proofs.PayloadTextLemmas.{PayloadText, Quoted, Digits, Repeated}

-- a list whose bytes pass one test pass another
pub all_pass : (a b : ℕ → Bool) → ((byte : ℕ) → a byte ≡ true → b byte ≡ true) → (bytes : List ℕ) → list_all a bytes ≡ true → list_all b bytes ≡ true
all_pass a b passes [] all = refl
all_pass a b passes (byte ∷ bytes) all =
    let p = and_parts (a byte) (list_all a bytes) all in
    rw (passes byte p.0) (all_pass a b passes bytes p.1)

text_byte_low : (byte : ℕ) → is_text_byte byte ≡ true → is_byte byte ≡ true
text_byte_low byte is = grind (arith, nat_tests)

text_byte_in_line : (byte : ℕ) → is_text_byte byte ≡ true → is_line_byte byte ≡ true
text_byte_in_line byte is = grind (arith, nat_tests)

pub digit_in_line : (byte : ℕ) → is_digit byte ≡ true → is_line_byte byte ≡ true
digit_in_line byte is = grind (arith, nat_tests)

copies_low : (number byte : ℕ) → is_byte byte ≡ true → list_all is_byte (replicate number byte) ≡ true
copies_low zero byte is = refl
copies_low (suc number) byte is = rw is (copies_low number byte is)

low_byte : (byte : ℕ) → byte < 256 → is_byte byte ≡ true
low_byte byte lt = grind (arith, nat_tests)

-- the bytes of a payload's text
pub some_bytes : (text bytes : List ℕ) → PayloadText text bytes → 1 ≤ length bytes
some_bytes text bytes (Quoted is) = is.some
some_bytes text bytes (Digits is) = is.some
some_bytes text bytes (Repeated is) = is.some

pub low_bytes : (text bytes : List ℕ) → PayloadText text bytes → list_all is_byte bytes ≡ true
low_bytes text bytes (Quoted is) = all_pass is_text_byte is_byte text_byte_low bytes is.all
low_bytes text bytes (Digits is) = is.all
low_bytes text bytes (Repeated is) = ap (list_all is_byte) is.equal ∙ copies_low (length bytes) is.byte (low_byte is.byte is.low)

-- a number of at least 3 is two more than its digits
few_digits : (number : ℕ) → 3 ≤ number → number < 100000 → length (decimal number) + 2 ≤ number
few_digits number large small = elim (cases_lt number 10) [
  | inl one ↦ omega (arith, length-decimal-le 1 number (omega arith) (omega arith) (omega arith))
  | inr more ↦ elim (cases_lt number 100) [
    | inl two ↦ omega (arith, length-decimal-le 2 number (omega arith) (omega arith) (omega arith))
    | inr many ↦ omega (arith, length-decimal-le 5 number (omega arith) (omega arith) (omega arith))
  ]
]

-- copies of a byte that aren't many are at most two
equal_copies : (number byte : ℕ) → list_all (λ other. other == byte) (replicate number byte) ≡ true
equal_copies zero byte = refl
equal_copies (suc number) byte = rw (own_number byte) (equal_copies number byte)

are_copies : (number byte : ℕ) → are_equal_bytes (replicate number byte) ≡ true
are_copies zero byte = refl
are_copies (suc number) byte = equal_copies number byte

few_copies : (number byte : ℕ) → are_many (replicate number byte) ≡ false → number < 3
few_copies number byte few = elim (cases_lt number 3) [
  | inl lt ↦ lt
  | inr large ↦
      let size : nat_le 3 (length (replicate number byte)) ≡ true = le-leb 3 (length (replicate number byte)) (omega (arith, length-replicate number byte)) in
      let wrong : are_many (replicate number byte) ≡ true = rw (size, are_copies number byte) refl in
      absurd cc
]

copies_size : (number byte : ℕ) → length (decimal number ++ 42 ∷ 120 ∷ encode_lower (byte ∷ [])) ≡ length (decimal number) + 4
copies_size number byte = omega (arith, length-append (decimal number) (42 ∷ 120 ∷ encode_lower (byte ∷ [])), length-encode_with lower_digits (byte ∷ []))

quoted_size : (bytes : List ℕ) → length (34 ∷ bytes ++ 34 ∷ []) ≡ length bytes + 2
quoted_size bytes = omega (arith, length-append bytes (34 ∷ []))

hex_size : (bytes : List ℕ) → length (120 ∷ encode_lower bytes) ≡ 2 * length bytes + 1
hex_size bytes = omega (arith, length-encode_with lower_digits bytes)

as_copies : (text bytes : List ℕ) (byte : ℕ) → PayloadText text bytes → length bytes < 100000 → 3 ≤ length bytes → length (decimal (length bytes) ++ 42 ∷ 120 ∷ encode_lower (byte ∷ [])) ≤ length text
as_copies text bytes byte (Quoted is) small large = omega (arith, copies_size (length bytes) byte, few_digits (length bytes) large small, is.size)
as_copies text bytes byte (Digits is) small large = omega (arith, copies_size (length bytes) byte, few_digits (length bytes) large small, is.size)
as_copies text bytes byte (Repeated is) small large = omega (arith, copies_size (length bytes) byte, is.size)

few_of : (bytes : List ℕ) (byte : ℕ) → bytes ≡ replicate (length bytes) byte → are_many bytes ≡ false → length bytes < 3
few_of bytes byte equal few = few_copies (length bytes) byte (ap are_many (sym equal) ∙ few)

as_text : (text bytes : List ℕ) → PayloadText text bytes → are_many bytes ≡ false → length (34 ∷ bytes ++ 34 ∷ []) ≤ length text
as_text text bytes (Quoted is) few = omega (arith, quoted_size bytes, is.size)
as_text text bytes (Digits is) few = omega (arith, quoted_size bytes, is.size, is.some)
as_text text bytes (Repeated is) few = omega (arith, quoted_size bytes, is.size, few_of bytes is.byte is.equal few)

as_hex : (text bytes : List ℕ) → PayloadText text bytes → are_many bytes ≡ false → list_all is_text_byte bytes ≡ false → length (120 ∷ encode_lower bytes) ≤ length text
as_hex text bytes (Quoted is) few other = let all = is.all in absurd cc
as_hex text bytes (Digits is) few other = omega (arith, hex_size bytes, is.size)
as_hex text bytes (Repeated is) few other = omega (arith, hex_size bytes, is.size, few_of bytes is.byte is.equal few, decimal_nonempty (length bytes) is.below)

pub no_longer_payload : (text bytes : List ℕ) → PayloadText text bytes → length bytes < 100000 → length (printed_payload bytes) ≤ length text
no_longer_payload text bytes is small = elim (payload_print bytes) [
  | AsCopies byte large equal shown ↦ rw shown (as_copies text bytes byte is small large)
  | AsText few all shown ↦ rw shown (as_text text bytes is few)
  | AsHex few other shown ↦ rw shown (as_hex text bytes is few other)
]

-- its bytes may stand in a line
pub both_all : (test : ℕ → Bool) (a b : List ℕ) → list_all test a ≡ true → list_all test b ≡ true → list_all test (a ++ b) ≡ true
both_all test a b first second = list_all-append test a b ∙ rw (first, second) refl

first_low : (byte : ℕ) (bytes : List ℕ) → 3 ≤ length bytes → bytes ≡ replicate (length bytes) byte → list_all is_byte bytes ≡ true → is_byte byte ≡ true
first_low byte bytes large equal all = go (length bytes) large (ap (list_all is_byte) (sym equal) ∙ all)
  where
    go : (number : ℕ) → 3 ≤ number → list_all is_byte (replicate number byte) ≡ true → is_byte byte ≡ true
    go zero large all = absurd (omega arith)
    go (suc number) large all = (and_parts (is_byte byte) (list_all is_byte (replicate number byte)) all).0

pub payload_in_line : (bytes : List ℕ) → length bytes < 2 ^ 64 → list_all is_byte bytes ≡ true → list_all is_line_byte (printed_payload bytes) ≡ true
payload_in_line bytes small low = elim (payload_print bytes) [
  | AsCopies byte large equal shown ↦
      let one : list_all is_byte (byte ∷ []) ≡ true = rw (first_low byte bytes large equal low) refl in
      rw shown (both_all is_line_byte (decimal (length bytes)) (42 ∷ 120 ∷ encode_lower (byte ∷ [])) (all_pass is_digit is_line_byte digit_in_line (decimal (length bytes)) (is_of_digits (length bytes) small)) (hex_in_line (byte ∷ []) one))
  | AsText few all shown ↦ rw shown (both_all is_line_byte bytes (34 ∷ []) (all_pass is_text_byte is_line_byte text_byte_in_line bytes all) refl)
  | AsHex few other shown ↦ rw shown (hex_in_line bytes low)
]
