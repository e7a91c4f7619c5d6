-- What units hold (our own).
use Rattle.std.specs.Prelude.{◌≡◌, ℕ, ◌+◌, ◌<◌, List, ◌∷◌, ◌++◌, length}
use Rattle.std.specs.List.{flat_map, sum_by}
use Rattle.sf_types.specs.Values.Marks.{Marked}

-- The content of units in order: their contents, joined.
abbrev pub joined_content : {P : Type 0} → (P → List Marked) → List P → List Marked
joined_content content units = flat_map content units

-- The weight of units: the sum of their weights.
abbrev pub weight_of : {P : Type 0} → (P → ℕ) → List P → ℕ
weight_of weight units = sum_by weight units

-- Where a byte lies, counted from 0: in this unit, after this many of the unit's bytes and all units before it.
pub record LiesIn {P : Type 0} (content : P → List Marked) (units : List P) (at : ℕ) (unit : P) (offset : ℕ) : Type 0 where
  pub before : List P
  pub after : List P
  pub units_are : units ≡ before ++ unit ∷ after
  pub at_is : at ≡ length (joined_content content before) + offset
  pub within : offset < length (content unit)
