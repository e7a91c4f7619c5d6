-- The bytes that a sink in memory keeps (our own).
use Rattle.std.specs.Prelude.{ℕ, Bool, false, ◌||◌, nat_lt, List, [], ◌++◌, length, take, Option, None, Some, if◌then◌else◌}

pub record Kept : Type 0 where
  -- the first bytes that the sink took, as many as there is room for
  pub bytes : List ℕ
  -- the most bytes that are kept
  pub room : ℕ
  -- more bytes were taken than there is room for
  pub is_over : Bool

-- nothing was taken yet
abbrev pub nothing_kept : ℕ → Kept
nothing_kept room = record { bytes = []; room = room; is_over = false }

-- what is kept once these bytes were taken too
abbrev pub kept_with : Kept → List ℕ → Kept
kept_with k taken =
    record k {
      bytes = take k.room (k.bytes ++ taken);
      is_over = k.is_over || nat_lt k.room (length (k.bytes ++ taken));
    }

-- all the bytes that were taken, where all of them were kept
abbrev pub told_bytes : Kept → Option (List ℕ)
told_bytes k = if k.is_over then None else Some k.bytes
