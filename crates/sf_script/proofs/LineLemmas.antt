-- The first line of a text.
use Rattle.std.proofs.Common.{◌≡◌, ℕ, ◌+◌, ◌<◌, ◌≤◌, true, false, List, [], ◌∷◌, length, take, drop, refl, ap, ◌∙◌, arith}
use Rattle.std.specs.List.{position_or_len, slice_split}
use Rattle.std.proofs.lemmas.List.Splits.{slice_split_first, length-slice_split}
use Rattle.sf_script.specs.Lines.{lines_from, lines_of, is_line_feed}
use Rattle.sf_script_calls.proofs.CutLemmas.{one_part}

ended : (text : List ℕ) (parts : List (List ℕ)) → 1 ≤ length parts → lines_from (text ∷ parts) ≡ record { text = text; ended = true } ∷ lines_from parts
ended text [] le = absurd (omega arith)
ended [] (next ∷ parts) le = refl
ended (byte ∷ bytes) (next ∷ parts) le = refl

pub no_line : (text : List ℕ) → length text ≡ 0 → lines_of text ≡ []
unfolding lines_of
no_line [] e = refl
no_line (byte ∷ text) e = absurd (omega arith)

-- where there is a line feed, it ends the first line
pub ended_line : (text : List ℕ) (place : ℕ) → place ≡ position_or_len is_line_feed text → place < length text → lines_of text ≡ record { text = take place text; ended = true } ∷ lines_of (drop (place + 1) text)
unfolding lines_of
ended_line text place e lt =
    let cut = slice_split_first is_line_feed text 0 (omega arith) in
    let whole = ap lines_from cut in
    let parts = slice_split is_line_feed (drop (position_or_len is_line_feed text + 1) text) in
    let some : 1 ≤ length parts = omega (arith, length-slice_split is_line_feed (drop (position_or_len is_line_feed text + 1) text)) in
    rw e (whole ∙ ended (take (position_or_len is_line_feed text) text) parts some)

-- where there is none, the text is one line
pub open_line : (text : List ℕ) (place : ℕ) → place ≡ position_or_len is_line_feed text → length text ≤ place → 1 ≤ length text → lines_of text ≡ record { text = text; ended = false } ∷ lines_of []
unfolding lines_of
open_line [] place e le some = absurd (omega arith)
open_line (byte ∷ text) place e le some = ap lines_from (one_part is_line_feed (byte ∷ text) (omega arith))
