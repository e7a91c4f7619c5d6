-- Equal fresh bytes.
use Rattle.std.specs.Prelude.{◌≡◌, ℕ, ◌+◌, List, ◌++◌, length, replicate}
use Rattle.std.proofs.Common.{ap, arith, length-append}
use Rattle.std.proofs.lemmas.List.{length-replicate}
use Rattle.sf_types.specs.Values.Marks.{Marked, fresh_byte}

-- The bytes of a unit of so many equal ones.
abbrev pub letters_content : ℕ → ℕ → List Marked
letters_content letter count = replicate count (fresh_byte letter)

-- A unit whose content is that of two others has as many bytes as both.
pub letters_add : (letter count front-letter front back-letter back : ℕ) → letters_content letter count ≡ letters_content front-letter front ++ letters_content back-letter back → count ≡ front + back
letters_add letter count front-letter front back-letter back is =
    omega (arith, ap length is, length-append (letters_content front-letter front) (letters_content back-letter back), length-replicate count (fresh_byte letter), length-replicate front (fresh_byte front-letter), length-replicate back (fresh_byte back-letter))
