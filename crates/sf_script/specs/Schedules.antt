-- Numbers of sessions, and schedule lines (our own).
use Rattle.std.specs.Prelude.{ℕ, ◌-◌, Bool, ◌&&◌, ◌==◌, nat_le, List, length, take, drop, slice_index, Option, Some, None, is_some, if◌then◌else◌, codes}
use Rattle.std.specs.List.{list_all, filter_map}
use Rattle.sf_script.specs.declared.turn.Turn.{Turn}
use Rattle.sf_script.specs.declared.turn.Turn.TheVariants as turn_kinds
use Rattle.sf_script_calls.specs.Reads.{◌>>=◌}
use Rattle.sf_script_calls.specs.Numbers.{number_of}
use Rattle.sf_script_calls.specs.Words.{is_word, parts_of}

-- The number of one of so many sessions.
unfoldable pub session_number : ℕ → List ℕ → Option ℕ
session_number sessions text = do
  number ← number_of text
  if nat_le 1 number && nat_le number sessions then Some number else None

-- Whether a word ends with a colon.
abbrev pub ends_with_colon : List ℕ → Bool
ends_with_colon word = nat_le 1 (length word) && slice_index word (length word - 1) == 58

-- The session that a call line's first word names: its number and a colon.
unfoldable pub session_of : ℕ → List ℕ → Option ℕ
session_of sessions word = if ends_with_colon word then session_number sessions (take (length word - 1) word) else None

-- The turn that a word spells: `r`, `shrink` or the number of a session.
unfoldable pub turn_of : ℕ → List ℕ → Option Turn
turn_of sessions word =
    if is_word (codes "r") word then Some turn_kinds.Reclaim
    else if is_word (codes "shrink") word then Some turn_kinds.Shrink
    else (do
      session ← session_number sessions word
      Some (turn_kinds.Session session))

-- The words of a schedule line behind its first.
abbrev pub schedule_words : List ℕ → List (List ℕ)
schedule_words text = drop 1 (parts_of text)

-- Whether each of these words is a turn.
unfoldable pub are_turns : ℕ → List (List ℕ) → Bool
are_turns sessions words = list_all (λ word. is_some (turn_of sessions word)) words

-- The turns that the words spell.
abbrev pub turns_of : ℕ → List (List ℕ) → List Turn
turns_of sessions words = filter_map (turn_of sessions) words
