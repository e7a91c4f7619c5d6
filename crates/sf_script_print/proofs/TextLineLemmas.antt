-- The lines of a text, and their bytes.
use Rattle.std.proofs.Common.{◌≡◌, ℕ, zero, suc, ◌+◌, ◌-◌, ◌<◌, ◌≤◌, Bool, true, false, cond, List, [], ◌∷◌, ◌++◌, length, get_or, refl, ap, ◌∙◌, arith}
use Rattle.std.specs.List.{list_all, slice_split, onto_first}
use Rattle.std.proofs.lemmas.Bool.{and_parts}
use Rattle.std.proofs.lemmas.Bool.Decides.{nat_tests}
use Rattle.std.proofs.lemmas.List.{append_assoc}
use Rattle.std.proofs.lemmas.List.Splits.{slice_split_at, length-slice_split}
use Rattle.sf_script.specs.Lines.{Line, is_line_feed, is_line_byte, lines_from, lines_of}

-- the bytes of a line with its line feed
abbrev pub line_size : Line → ℕ
line_size line = length line.text + cond line.ended 1 0

abbrev pub lines_size : List Line → ℕ
lines_size [] = 0
lines_size (line ∷ lines) = line_size line + lines_size lines

with_feed : (ended : Bool) (text : List ℕ) → ended ≡ true → length text + cond ended 1 0 ≡ length text + 1
with_feed true text is = refl
with_feed false text is = absurd cc

pub ended_size : (line : Line) → line.ended ≡ true → line_size line ≡ length line.text + 1
ended_size line is = with_feed line.ended line.text is

-- parts with what stands between them
abbrev parts_size : List (List ℕ) → ℕ
parts_size [] = 0
parts_size (part ∷ parts) = length part + 1 + parts_size parts

onto_size : (byte : ℕ) (parts : List (List ℕ)) → 1 ≤ parts_size parts → parts_size (onto_first byte parts) ≡ parts_size parts + 1
onto_size byte [] some = absurd (omega arith)
onto_size byte (part ∷ parts) some = omega arith

split_size : (text : List ℕ) → parts_size (slice_split is_line_feed text) ≡ length text + 1
split_size [] = refl
split_size (byte ∷ text) = pick (is_line_feed byte) (split_size text)
  where
    pick : (test : Bool) → parts_size (slice_split is_line_feed text) ≡ length text + 1 → parts_size (cond test ([] ∷ slice_split is_line_feed text) (onto_first byte (slice_split is_line_feed text))) ≡ length (byte ∷ text) + 1
    pick true e = omega (arith, e)
    pick false e = omega (arith, e, onto_size byte (slice_split is_line_feed text) (omega (arith, e)))

from_size : (parts : List (List ℕ)) → lines_size (lines_from parts) ≤ parts_size parts - 1
from_size [] = omega arith
from_size ([] ∷ []) = omega arith
from_size ((byte ∷ bytes) ∷ []) = omega arith
from_size ([] ∷ next ∷ parts) = omega (arith, from_size (next ∷ parts))
from_size ((byte ∷ bytes) ∷ next ∷ parts) = omega (arith, from_size (next ∷ parts))

-- a text has the bytes of its lines
pub size_of_lines : (text : List ℕ) → lines_size (lines_of text) ≤ length text
unfolding lines_of
size_of_lines text = omega (arith, split_size text, from_size (slice_split is_line_feed text))

no_line_feed : (byte : ℕ) → is_line_byte byte ≡ true → is_line_feed byte ≡ false
no_line_feed byte is = grind (arith, nat_tests)

no_line_feed_at : (text : List ℕ) → list_all is_line_byte text ≡ true → (k d : ℕ) → k < length text → is_line_feed (get_or text k d) ≡ false
no_line_feed_at [] all k d lt = absurd (omega arith)
no_line_feed_at (byte ∷ text) all zero d lt = no_line_feed byte (and_parts (is_line_byte byte) (list_all is_line_byte text) all).0
no_line_feed_at (byte ∷ text) all (suc k) d lt = no_line_feed_at text (and_parts (is_line_byte byte) (list_all is_line_byte text) all).1 k d (omega arith)

ended : (text : List ℕ) (parts : List (List ℕ)) → 1 ≤ length parts → lines_from (text ∷ parts) ≡ record { text = text; ended = true } ∷ lines_from parts
ended text [] le = absurd (omega arith)
ended [] (next ∷ parts) le = refl
ended (byte ∷ bytes) (next ∷ parts) le = refl

-- a line and the text behind it
pub lines_behind : (text rest : List ℕ) → list_all is_line_byte text ≡ true → lines_of (text ++ 10 ∷ rest) ≡ record { text = text; ended = true } ∷ lines_of rest
unfolding lines_of
lines_behind text rest all =
    ap lines_from (slice_split_at is_line_feed text 10 rest (no_line_feed_at text all) refl)
    ∙ ended text (slice_split is_line_feed rest) (omega (arith, length-slice_split is_line_feed rest))

pub no_lines : lines_of [] ≡ []
unfolding lines_of
no_lines = refl

-- six parts of a text
pub six_parts : (a b c d e f : List ℕ) → a ++ b ++ c ++ d ++ e ++ f ≡ a ++ (b ++ (c ++ (d ++ (e ++ f))))
six_parts a b c d e f =
    append_assoc (a ++ b ++ c ++ d) e f ∙ append_assoc (a ++ b ++ c) d (e ++ f) ∙ append_assoc (a ++ b) c (d ++ (e ++ f)) ∙ append_assoc a b (c ++ (d ++ (e ++ f)))
