-- What an edit leaves as it was (our own).
use Rattle.std.specs.Prelude.{◌≡◌, ℕ, ◌+◌, List, length, take, drop}
use Rattle.sf_types.specs.Values.Marks.{Marked}

-- The new list has the old one's first items, then some others, and then the old one's items behind a place.
pub record IsSplice (old new : List Marked) (front : ℕ) (items : List Marked) (behind : ℕ) : Type 0 where
  pub before : take front new ≡ take front old
  pub inside : take (length items) (drop front new) ≡ items
  pub after : drop (front + length items) new ≡ drop behind old

-- The new list has the old one's first items and its items from a place on.
pub record IsSameOutside (old new : List Marked) (front behind : ℕ) : Type 0 where
  pub before : take front new ≡ take front old
  pub after : drop behind new ≡ drop behind old
