-- Pairs of hex digits.
use Rattle.std.proofs.Common.{◌≡◌, ℕ, ◌/◌, List, [], ◌∷◌, length, refl, arith}
use Rattle.sf_script_calls.specs.Payloads.{hex_bytes}

-- two digits are one byte
pub length-hex_bytes : (digits : List ℕ) → length digits / 2 ≡ length (hex_bytes digits)
length-hex_bytes [] = refl
length-hex_bytes (high ∷ []) = refl
length-hex_bytes (high ∷ low ∷ digits) = omega (arith, length-hex_bytes digits)
