-- Names of rows, of locators and of savepoints (our own).
use Rattle.std.specs.Prelude.{ℕ, Bool, ◌&&◌, ◌||◌, ◌==◌, nat_le, List, length, Option, Some, None, if◌then◌else◌}
use Rattle.std.specs.List.{list_all}
use Rattle.std.specs.declared.cmp.Ordering.{Ordering}
use Rattle.std.specs.Ordering.{nat_cmp}
use Rattle.std.specs.Cmp.Lexicographic.{slice_cmp}

-- Whether a byte lies between two others, or is one of them.
abbrev pub is_between : ℕ → ℕ → ℕ → Bool
is_between low high c = nat_le low c && nat_le c high

-- A name is made of the letters `A` to `Z` and `a` to `z`, digits, `_`, `.` and `-`.
abbrev pub is_name_byte : ℕ → Bool
is_name_byte c =
    is_between 65 90 c || is_between 97 122 c || is_between 48 57 c || c == 95 || c == 46 || c == 45

-- A name has at least one byte and at most `most`, and each may stand in a name.
abbrev pub is_name : ℕ → List ℕ → Bool
is_name most text = nat_le 1 (length text) && nat_le (length text) most && list_all is_name_byte text

-- A text as a name, or none where it isn't one.
abbrev pub name_of : ℕ → List ℕ → Option (List ℕ)
name_of most text = if is_name most text then Some text else None

-- Names stand in the order of their bytes.
abbrev pub name_cmp : List ℕ → List ℕ → Ordering
name_cmp = slice_cmp nat_cmp
