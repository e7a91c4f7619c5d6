-- Rising lists of births, which are numbers from 1 (our own).
use Rattle.std.specs.Prelude.{ℕ, ◌<◌, ◌==◌, nat_lt, List, [], ◌∷◌, if◌then◌else◌}

-- A birth is less than all of a list.
abbrev pub IsBelowAll : ℕ → List ℕ → Type 0
IsBelowAll birth [] = Unit {0}
IsBelowAll birth (b ∷ bs) = (birth < b) × IsBelowAll birth bs

-- Each birth is less than all after it.
abbrev pub IsRising : List ℕ → Type 0
IsRising [] = Unit {0}
IsRising (b ∷ bs) = IsBelowAll b bs × IsRising bs

-- A birth is greater than all of a list.
abbrev pub IsAboveAll : ℕ → List ℕ → Type 0
IsAboveAll birth [] = Unit {0}
IsAboveAll birth (b ∷ bs) = (b < birth) × IsAboveAll birth bs

-- A rising list with one birth more, which stands in it once.
abbrev pub with_birth : ℕ → List ℕ → List ℕ
with_birth birth [] = birth ∷ []
with_birth birth (b ∷ bs) =
    if nat_lt birth b then birth ∷ b ∷ bs else if birth == b then b ∷ bs else b ∷ with_birth birth bs

-- The births of any list, rising, each once.
abbrev pub rising_births : List ℕ → List ℕ
rising_births [] = []
rising_births (b ∷ bs) = with_birth b (rising_births bs)
