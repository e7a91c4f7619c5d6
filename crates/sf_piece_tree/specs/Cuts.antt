-- Cuts of units at a byte, counted from 0 (our own).
use Rattle.std.specs.Prelude.{◌≡◌, ℕ, ◌+◌, ◌<◌, ◌⊎◌, List, [], ◌∷◌, ◌++◌, length, take, drop}
use Rattle.sf_types.specs.Values.Marks.{Marked}
use Rattle.sf_piece_tree.specs.Contents.{joined_content}

-- A cut between two units, or at an end: the units are those of the first part, which has as many bytes, and of the second.
pub record CutsBetween {P : Type 0} (content : P → List Marked) (units : List P) (at : ℕ) (first second : List P) : Type 0 where
  pub units_are : units ≡ first ++ second
  pub at_is : at ≡ length (joined_content content first)

-- A cut within a unit, after at least one of its bytes and before the last: the first part ends with a unit of the bytes
-- before the cut, and the second begins with a unit of those after it. No other unit changes.
pub record CutsWithin {P : Type 0} (content : P → List Marked) (units : List P) (at : ℕ) (first second : List P) : Type 0 where
  pub before : List P
  pub unit : P
  pub after : List P
  pub offset : ℕ
  pub front : P
  pub back : P
  pub units_are : units ≡ before ++ unit ∷ after
  pub at_is : at ≡ length (joined_content content before) + offset
  pub some : 0 < offset
  pub within : offset < length (content unit)
  pub front_is : content front ≡ take offset (content unit)
  pub back_is : content back ≡ drop offset (content unit)
  pub first_is : first ≡ before ++ front ∷ []
  pub second_is : second ≡ back ∷ after

-- Units cut at a byte: between two units where one ends there, and within a unit elsewhere.
abbrev pub IsCut : {P : Type 0} → (P → List Marked) → List P → ℕ → List P → List P → Type 0
IsCut content units at first second = CutsBetween content units at first second ⊎ CutsWithin content units at first second
