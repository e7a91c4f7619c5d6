-- The lines of a text (our own).
use Rattle.std.specs.Prelude.{ℕ, Bool, true, false, ◌==◌, List, [], ◌∷◌}
use Rattle.std.specs.List.{slice_split}
use Rattle.sf_types.specs.Values.Names.{is_between}

-- A line, and whether a line feed ends it.
pub record Line : Type 0 where
  pub text : List ℕ
  pub ended : Bool

-- A line feed is the byte 10.
abbrev pub is_line_feed : ℕ → Bool
is_line_feed byte = byte == 10

-- Each part before a line feed is a line. What stands behind the last line feed is a line that isn't ended, unless it
-- is empty.
abbrev pub lines_from : List (List ℕ) → List Line
lines_from [] = []
lines_from ([] ∷ []) = []
lines_from ((byte ∷ bytes) ∷ []) = record { text = byte ∷ bytes; ended = false } ∷ []
lines_from (text ∷ next ∷ parts) = record { text = text; ended = true } ∷ lines_from (next ∷ parts)

-- The lines of a text, which is cut at its line feeds.
unfoldable pub lines_of : List ℕ → List Line
lines_of bytes = lines_from (slice_split is_line_feed bytes)

-- A line's bytes are 0x20 to 0x7E.
abbrev pub is_line_byte : ℕ → Bool
is_line_byte = is_between 32 126
