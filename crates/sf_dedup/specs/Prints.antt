-- Prints of contents (SHA-256 of FIPS 180-4).
use Rattle.std.specs.Prelude.{ℕ, List}
use Rattle.sha2.specs.Sha256.{sha256}
use Rattle.sf_dedup.specs.declared.print.Print.{Print}

-- The print of a content: the SHA-256 of its bytes.
abbrev pub print_of : List ℕ → Print
print_of content = record { sum = sha256 content }
