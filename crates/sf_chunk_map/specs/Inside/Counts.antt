-- How many bytes of each birth a value has (our own).
use Rattle.std.specs.Prelude.{◌≡◌, ℕ, ◌<◌, ◌==◌, Bool, false, nat_lt, List, map, filter, Option, None, Some, IsSome, unwrap_or}
use Rattle.std.specs.List.{count_by}
use Rattle.std.specs.Map.{lookup}
use Rattle.std.specs.Ordering.{is_eq, nat_cmp}
use Rattle.sf_types.specs.Values.Marks.{Mark, Zero, Fresh, Stored, Marked}

-- Numbers by births.
abbrev pub Counts : Type 0
Counts = List (ℕ × ℕ)

-- What stands at a birth.
abbrev pub found_at : Counts → ℕ → Option ℕ
found_at counts birth = lookup (λ other. is_eq (nat_cmp birth other)) counts

-- The number at a birth, and 0 where there is none.
abbrev pub count_at : Counts → ℕ → ℕ
count_at counts birth = unwrap_or (found_at counts birth) 0

-- A birth has a place among the numbers.
abbrev pub HasPlace : Counts → ℕ → Type 0
HasPlace counts birth = IsSome (found_at counts birth)

-- Whether a mark names this birth.
abbrev pub names_birth : ℕ → Mark → Bool
names_birth birth Zero = false
names_birth birth Fresh = false
names_birth birth (Stored other index) = other == birth

-- The number of bytes that a birth stores.
abbrev pub bytes_of_birth : ℕ → List Marked → ℕ
bytes_of_birth birth marked = count_by (λ m. names_birth birth m.mark) marked

-- The numbers are those of the bytes that each birth stores.
abbrev pub AreCounts : Counts → List Marked → Type 0
AreCounts counts marked = (birth : ℕ) → count_at counts birth ≡ bytes_of_birth birth marked

-- The births that have a byte, in the order of the numbers.
abbrev pub births_with_bytes : Counts → List ℕ
births_with_bytes counts = map (λ e. e.0) (filter (λ e. nat_lt 0 e.1) counts)

-- Each birth that stores some of the bytes has a place.
abbrev pub HavePlaces : Counts → List Marked → Type 0
HavePlaces counts marked = (birth : ℕ) → 0 < bytes_of_birth birth marked → HasPlace counts birth

-- Whether a birth is the one that is there.
abbrev pub is_birth : ℕ → Option ℕ → Bool
is_birth birth None = false
is_birth birth (Some other) = other == birth
