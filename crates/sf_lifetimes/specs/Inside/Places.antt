-- Where a birth stands in a rising list or would go, counted from 0 (our own).
use Rattle.std.specs.Prelude.{ℕ, ◌<◌, ◌≤◌, List, length, slice_index_or}

-- So many births at the front of a list are less than a birth.
abbrev pub AreBelow : List ℕ → ℕ → ℕ → Type 0
AreBelow births count birth = (k : ℕ) → k < count → slice_index_or births k 0 < birth

-- A birth stands at a place of a list or would go there: all before are less, and the one that is there isn't.
pub record IsPlaceOf (births : List ℕ) (at birth : ℕ) : Type 0 where
  pub within : at ≤ length births
  pub below : AreBelow births at birth
  pub not_below : at < length births → birth ≤ slice_index_or births at 0
