-- Contents by birth, of which no two are equal (our own, after the deduplication of VLDB 2008).
use Rattle.std.specs.Prelude.{◌≡◌, ℕ, Bool, false, List, find, bytes_eq, Option, Some}
use Rattle.std.specs.Option.{option_map, option_map_or}
use Rattle.std.specs.Ordering.{nat_cmp}
use Rattle.std.specs.Map.{keys_of}
use Rattle.std.specs.List.Sorted.{IsStrictlySortedBy}
use Rattle.sf_room_map.specs.Entries.{value_for, with_value, without_key}

-- Contents by birth: a list of entries whose births rise.
abbrev pub Contents : Type 0
Contents = List (ℕ × List ℕ)

-- The bytes of a birth.
abbrev pub content_at : Contents → ℕ → Option (List ℕ)
content_at contents birth = value_for nat_cmp contents birth

-- The birth that has these bytes. None where no birth has them.
abbrev pub birth_with : Contents → List ℕ → Option ℕ
birth_with contents bytes = option_map (λ e. e.0) (find (λ e. bytes_eq e.1 bytes) contents)

-- Whether a birth has these bytes.
abbrev pub has_content : Contents → ℕ → List ℕ → Bool
has_content contents birth bytes = option_map_or (λ own. bytes_eq own bytes) (content_at contents birth) false

-- The contents with these bytes at a birth, and all else as before.
abbrev pub with_content : Contents → ℕ → List ℕ → Contents
with_content contents birth bytes = with_value nat_cmp contents birth bytes

-- The contents without a birth, and all else as before.
abbrev pub without_birth : Contents → ℕ → Contents
without_birth contents birth = without_key nat_cmp contents birth

-- The births rise, and no two of them have the same bytes.
pub record AreDistinct (contents : Contents) : Type 0 where
  pub rising : IsStrictlySortedBy nat_cmp (keys_of contents)
  pub apart : (birth other : ℕ) (bytes : List ℕ) → content_at contents birth ≡ Some bytes → content_at contents other ≡ Some bytes → birth ≡ other
