-- Words, which single spaces separate (our own).
use Rattle.std.specs.Prelude.{ℕ, Bool, ◌==◌, nat_lt, List, length, Option, Some, None, if◌then◌else◌}
use Rattle.std.specs.List.{before_first, after_first, position_or_len, slice_split}
use Rattle.std.specs.Str.{bytes_eq}

-- A space is the byte 32.
abbrev pub is_space : ℕ → Bool
is_space byte = byte == 32

-- The first word of a text ends at the first space, or at the text's end.
abbrev pub first_word : List ℕ → List ℕ
first_word = before_first is_space

-- Whether a text has a space.
abbrev pub has_space : List ℕ → Bool
has_space text = nat_lt (position_or_len is_space text) (length text)

-- A word that a space ends, and what stands behind that space. None where there is no space.
unfoldable pub word_at : List ℕ → Option (List ℕ × List ℕ)
word_at text = if has_space text then Some (first_word text, after_first is_space text) else None

-- The parts of a text between its spaces. Where two spaces stand together, the part between them is empty.
abbrev pub parts_of : List ℕ → List (List ℕ)
parts_of = slice_split is_space

-- Whether a word is spelled so.
unfoldable pub is_word : List ℕ → List ℕ → Bool
is_word spelling word = bytes_eq word spelling
