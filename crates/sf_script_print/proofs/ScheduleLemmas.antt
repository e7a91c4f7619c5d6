-- A printed schedule line is read as its turns.
use Rattle.std.proofs.Common.{◌≡◌, ℕ, ◌^◌, ◌<◌, ◌≤◌, zero, suc, Bool, true, false, not, List, [], ◌∷◌, ◌++◌, length, drop, map, get_or, Option, Some, refl, sym, ap, ◌∙◌, arith}
use Rattle.std.specs.Prelude.{codes, nat_le}
use Rattle.std.specs.Fmt.{decimal}
use Rattle.std.specs.List.{list_all, cons_option}
use Rattle.std.proofs.lemmas.Bool.{and_parts, false_from_ne_true, le-leb, leb-true}
use Rattle.std.proofs.lemmas.Bool.Decides.{nat_tests}
use Rattle.std.proofs.lemmas.List.{append-nil}
use Rattle.std.proofs.lemmas.List.Splits.{slice_split_at, slice_split_none}
use Rattle.sf_script.specs.declared.reading.Reading.TheVariants as reads
use Rattle.sf_script.specs.declared.turn.Turn.{Turn}
use Rattle.sf_script.specs.declared.turn.Turn.TheVariants as turn_kinds
use Rattle.sf_script.specs.LineForms.{ScheduleLine, form_of, schedule_line}
use Rattle.sf_script.specs.Parts.{ScriptParts, names_session}
use Rattle.sf_script.specs.Schedules.{session_number, turn_of, are_turns, turns_of, schedule_words}
use Rattle.sf_script_calls.specs.Numbers.{is_digit}
use Rattle.sf_script_calls.specs.Words.{is_space, first_word, parts_of, is_word}
use Rattle.sf_script_print.specs.PrintedCalls.{spaced}
use Rattle.sf_script_print.specs.Printing.{turn_word}
use Rattle.sf_script_print.proofs.NumberTextLemmas.{read_number, is_of_digits}
use Rattle.sf_script_print.proofs.PayloadSizeLemmas.{all_pass}
use Rattle.sf_script_print.proofs.WordLemmas.{is_word_byte, first_of_cut, spelled}

-- a turn's word is read as the turn
session_read : (sessions session : ℕ) → 1 ≤ session → session ≤ sessions → session < 2 ^ 64 → session_number sessions (decimal session) ≡ Some session
unfolding session_number
session_read sessions session low high small = rw (read_number session low small, le-leb 1 session low, le-leb session sessions high) refl

pub not_digits : (spelling : List ℕ) (number : ℕ) → number < 2 ^ 64 → list_all is_digit spelling ≡ false → is_word spelling (decimal number) ≡ false
not_digits spelling number small other =
    false_from_ne_true (is_word spelling (decimal number)) (λ is. let wrong : list_all is_digit spelling ≡ true = ap (list_all is_digit) (sym (spelled spelling (decimal number) is)) ∙ is_of_digits number small in absurd cc)

pub turn_read : (sessions : ℕ) (turn : Turn) → sessions < 2 ^ 64 → names_session sessions turn ≡ true → turn_of sessions (turn_word turn) ≡ Some turn
unfolding turn_of is_word
turn_read sessions (turn_kinds.Session session) small named =
    let range = and_parts (nat_le 1 session) (nat_le session sessions) named in
    let low = leb-true 1 session range.0 in
    let high = leb-true session sessions range.1 in
    let below : session < 2 ^ 64 = omega arith in
    rw (not_digits (codes "r") session below refl, not_digits (codes "shrink") session below refl, session_read sessions session low high below) refl
turn_read sessions turn_kinds.Reclaim small named = refl
turn_read sessions turn_kinds.Shrink small named = refl

-- so are the words of turns
some_turn : (sessions : ℕ) (turns : List Turn) → sessions < 2 ^ 64 → list_all (names_session sessions) turns ≡ true → are_turns sessions (map turn_word turns) ≡ true
unfolding are_turns
some_turn sessions [] small all = refl
some_turn sessions (turn ∷ turns) small all =
    let p = and_parts (names_session sessions turn) (list_all (names_session sessions) turns) all in
    rw (turn_read sessions turn small p.0) (some_turn sessions turns small p.1)

turns_read : (sessions : ℕ) (turns : List Turn) → sessions < 2 ^ 64 → list_all (names_session sessions) turns ≡ true → turns_of sessions (map turn_word turns) ≡ turns
turns_read sessions [] small all = refl
turns_read sessions (turn ∷ turns) small all =
    let p = and_parts (names_session sessions turn) (list_all (names_session sessions) turns) all in
    ap (λ (o : Option Turn). cons_option o (turns_of sessions (map turn_word turns))) (turn_read sessions turn small p.0) ∙ ap (λ (others : List Turn). turn ∷ others) (turns_read sessions turns small p.1)

-- a turn's word has no space
digit_no_space : (byte : ℕ) → is_digit byte ≡ true → is_word_byte byte ≡ true
digit_no_space byte is = grind (arith, nat_tests)

word_no_space : (sessions : ℕ) (turn : Turn) → sessions < 2 ^ 64 → names_session sessions turn ≡ true → list_all is_word_byte (turn_word turn) ≡ true
word_no_space sessions (turn_kinds.Session session) small named =
    let range = and_parts (nat_le 1 session) (nat_le session sessions) named in
    let high = leb-true session sessions range.1 in
    all_pass is_digit is_word_byte digit_no_space (decimal session) (is_of_digits session (omega arith))
word_no_space sessions turn_kinds.Reclaim small named = refl
word_no_space sessions turn_kinds.Shrink small named = refl

words_no_space : (sessions : ℕ) (turns : List Turn) → sessions < 2 ^ 64 → list_all (names_session sessions) turns ≡ true → list_all (list_all is_word_byte) (map turn_word turns) ≡ true
words_no_space sessions [] small all = refl
words_no_space sessions (turn ∷ turns) small all =
    let p = and_parts (names_session sessions turn) (list_all (names_session sessions) turns) all in
    rw (word_no_space sessions turn small p.0) (words_no_space sessions turns small p.1)

-- the parts of words that single spaces separate
no_space : (byte : ℕ) → is_word_byte byte ≡ true → is_space byte ≡ false
no_space byte is = go (is_space byte) is
  where
    go : (test : Bool) → not test ≡ true → test ≡ false
    go true e = absurd cc
    go false e = refl

no_space_at : (word : List ℕ) → list_all is_word_byte word ≡ true → (k d : ℕ) → k < length word → is_space (get_or word k d) ≡ false
no_space_at [] all k d lt = absurd (omega arith)
no_space_at (byte ∷ word) all zero d lt = no_space byte (and_parts (is_word_byte byte) (list_all is_word_byte word) all).0
no_space_at (byte ∷ word) all (suc k) d lt = no_space_at word (and_parts (is_word_byte byte) (list_all is_word_byte word) all).1 k d (omega arith)

pub parts_of_words : (first : List ℕ) (words : List (List ℕ)) → list_all is_word_byte first ≡ true → list_all (list_all is_word_byte) words ≡ true → parts_of (first ++ spaced words) ≡ first ∷ words
parts_of_words first [] one all = ap parts_of (append-nil first) ∙ slice_split_none is_space first (no_space_at first one)
parts_of_words first (word ∷ words) one all =
    let p = and_parts (list_all is_word_byte word) (list_all (list_all is_word_byte) words) all in
    slice_split_at is_space first 32 (word ++ spaced words) (no_space_at first one) refl ∙ ap (λ (parts : List (List ℕ)). first ∷ parts) (parts_of_words word words p.0 p.1)

-- the words of a printed schedule line are turns
pub schedule_words_read : (sessions : ℕ) (turn : Turn) (turns : List Turn) → sessions < 2 ^ 64 → list_all (names_session sessions) (turn ∷ turns) ≡ true
    → are_turns sessions (schedule_words (codes "schedule" ++ spaced (map turn_word (turn ∷ turns)))) ≡ true
schedule_words_read sessions turn turns small all =
    ap (λ (p : List (List ℕ)). are_turns sessions (drop 1 p)) (parts_of_words (codes "schedule") (map turn_word (turn ∷ turns)) refl (words_no_space sessions (turn ∷ turns) small all))
    ∙ some_turn sessions (turn ∷ turns) small all

-- a printed schedule line has the form of its turns
pub schedule_read : (parts : ScriptParts) (turn : Turn) (turns : List Turn) → parts.sessions < 2 ^ 64 → list_all (names_session parts.sessions) (turn ∷ turns) ≡ true
    → form_of (reads.Sessions parts) (codes "schedule" ++ spaced (map turn_word (turn ∷ turns))) ≡ Some (ScheduleLine (turn ∷ turns))
unfolding schedule_line is_word
schedule_read parts turn turns small all =
    let words = map turn_word (turn ∷ turns) in
    let first : first_word (codes "schedule" ++ spaced words) ≡ codes "schedule" = first_of_cut (codes "schedule") (turn_word turn ++ spaced (map turn_word turns)) refl in
    let cut : schedule_words (codes "schedule" ++ spaced words) ≡ words = ap (λ (p : List (List ℕ)). drop 1 p) (parts_of_words (codes "schedule") words refl (words_no_space parts.sessions (turn ∷ turns) small all)) in
    rw (first, cut, some_turn parts.sessions (turn ∷ turns) small all, turns_read parts.sessions (turn ∷ turns) small all) refl
