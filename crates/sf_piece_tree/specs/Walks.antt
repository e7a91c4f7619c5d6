-- Walks over units from a byte on, counted from 0 (our own).
use Rattle.std.specs.Prelude.{◌≡◌, ℕ, ◌-◌, ◌⊎◌, Bool, true, false, nat_lt, List, [], ◌∷◌, map, drop, length, if◌then◌else◌}
use Rattle.std.specs.List.{flat_map}
use Rattle.sf_types.specs.Values.Marks.{Marked}

-- Units of which a walk shows all bytes: none of them comes before it.
abbrev pub whole_units : {P : Type 0} → List P → List (P × ℕ)
whole_units units = map (λ unit. (unit, 0)) units

-- The units from a byte on, each with the number of its bytes that come before: those of the unit in which the byte lies,
-- and none of the others.
abbrev pub units_from : {P : Type 0} → (P → List Marked) → List P → ℕ → List (P × ℕ)
units_from content [] at = []
units_from content (unit ∷ units) at =
    if nat_lt at (length (content unit)) then (unit, at) ∷ whole_units units
    else units_from content units (at - length (content unit))

-- The bytes of units that a walk shows: of each those that don't come before it, joined.
abbrev pub shown_content : {P : Type 0} → (P → List Marked) → List (P × ℕ) → List Marked
shown_content content shown = flat_map (λ unit. drop unit.1 (content unit.0)) shown

-- A visitor is shown units one after another, each with a number of its bytes, until it answers false or there is none
-- left. `more` is its last answer, and true where there was no unit.
abbrev pub Walks : {P V : Type 0} → (V → P → ℕ → V → Bool → Type 0) → List (P × ℕ) → V → V → Bool → Type 0
Walks visits [] before after more = (after ≡ before) × (more ≡ true)
Walks visits (shown ∷ rest) before after more =
    (visits before shown.0 shown.1 after false × (more ≡ false))
    ⊎ ((next : _) × (visits before shown.0 shown.1 next true) × Walks visits rest next after more)
