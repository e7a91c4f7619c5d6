-- Where units with some weight stand (our own).
use Rattle.std.specs.Prelude.{ℕ, ◌+◌, ◌-◌, ◌<◌, ◌&&◌, nat_lt, List, [], ◌∷◌, Option, Some, None, length, if◌then◌else◌}
use Rattle.std.specs.Option.{option_map}
use Rattle.sf_types.specs.Values.Marks.{Marked}

-- The first byte, from a byte on, that lies in a unit with some weight. Bytes are counted from 0.
abbrev pub weighty_byte : {P : Type 0} → (P → List Marked) → (P → ℕ) → List P → ℕ → Option ℕ
weighty_byte content weight [] at = None
weighty_byte content weight (unit ∷ units) at =
    if nat_lt at (length (content unit)) && nat_lt 0 (weight unit) then Some at
    else option_map (λ n. length (content unit) + n) (weighty_byte content weight units (at - length (content unit)))

-- Units of which the first has some weight. There is one.
abbrev pub BeginsWeighty : {P : Type 0} → (P → ℕ) → List P → Type 0
BeginsWeighty weight [] = ⊥
BeginsWeighty weight (unit ∷ units) = 0 < weight unit
