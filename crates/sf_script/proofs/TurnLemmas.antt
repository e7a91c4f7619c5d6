-- The words of a text, one after the other.
use Rattle.std.proofs.Common.{◌≡◌, ℕ, ◌+◌, ◌≤◌, ◌<◌, Bool, true, false, cond, ◌&&◌, List, [], ◌∷◌, length, drop, ◌++◌, Option, Some, None, refl, sym, ap, ◌∙◌, arith}
use Rattle.std.specs.Prelude.{is_some}
use Rattle.std.specs.List.{position_or_len, cons_option}
use Rattle.std.proofs.lemmas.Bool.{ltb-true, ltb-false}
use Rattle.std.proofs.lemmas.List.{length-drop}
use Rattle.std.proofs.lemmas.List.Splits.{slice_split_first, length-slice_split}
use Rattle.std.proofs.lemmas.Option.{cond_some}
use Rattle.sf_script.specs.declared.turn.Turn.{Turn}
use Rattle.sf_script.specs.LineForms.{schedule_line, ScheduleLine}
use Rattle.sf_script_calls.specs.Numbers.{is_empty_list, number_of}
use Rattle.sf_script.specs.Schedules.{schedule_words, session_number, turn_of, are_turns, turns_of}
use Rattle.sf_script_calls.specs.Words.{is_space, has_space, first_word, word_at, parts_of, is_word}
use Rattle.sf_script_calls.proofs.CutLemmas.{one_part}

cut_some : {A : Type 0} (b : Bool) (x y : A) → Some y ≡ cond b (Some x) None → (b ≡ true) × (x ≡ y)
cut_some b x y e = cond_some b x y (sym e)

cut_none : {A : Type 0} (b : Bool) (x : A) → None ≡ cond b (Some x) None → b ≡ false
cut_none true x e = absurd cc
cut_none false x e = refl

-- a word that a space ends is the first part
pub first_part : (text word rest : List ℕ) → Some (word, rest) ≡ word_at text → parts_of text ≡ word ∷ parts_of rest
unfolding word_at
first_part text word rest e =
    let p = cut_some (has_space text) (first_word text, drop (position_or_len is_space text + 1) text) (word, rest) e in
    let lt = ltb-true (position_or_len is_space text) (length text) p.0 in
    slice_split_first is_space text 0 lt ∙ ap (λ (x : List ℕ × List ℕ). x.0 ∷ parts_of x.1) p.1

-- it leaves fewer bytes
pub fewer : (text word rest : List ℕ) → Some (word, rest) ≡ word_at text → length rest < length text
unfolding word_at
fewer text word rest e =
    let p = cut_some (has_space text) (first_word text, drop (position_or_len is_space text + 1) text) (word, rest) e in
    let lt = ltb-true (position_or_len is_space text) (length text) p.0 in
    let is : length (drop (position_or_len is_space text + 1) text) ≡ length rest = ap (λ (x : List ℕ × List ℕ). length x.1) p.1 in
    omega (arith, is, length-drop (position_or_len is_space text + 1) text)

-- where there is no space, the text is the one part
pub last_part : (text : List ℕ) → None ≡ word_at text → parts_of text ≡ text ∷ []
unfolding word_at
last_part text e =
    let b = cut_none (has_space text) (first_word text, drop (position_or_len is_space text + 1) text) e in
    one_part is_space text (ltb-false (position_or_len is_space text) (length text) b)

pub has_part : (text : List ℕ) → is_empty_list (parts_of text) ≡ false
has_part text = some_part (parts_of text) (omega (arith, length-slice_split is_space text))
  where
    some_part : (parts : List (List ℕ)) → 1 ≤ length parts → is_empty_list parts ≡ false
    some_part [] le = absurd (omega arith)
    some_part (part ∷ parts) le = refl

-- a turn, and the words behind it
pub turns-cons : (sessions : ℕ) (word : List ℕ) (words : List (List ℕ)) → are_turns sessions (word ∷ words) ≡ (is_some (turn_of sessions word) && are_turns sessions words)
unfolding are_turns
turns-cons sessions word words = refl

pub turns-nil : (sessions : ℕ) → are_turns sessions [] ≡ true
unfolding are_turns
turns-nil sessions = refl

both : (a b : Bool) → a ≡ true → (a && b) ≡ b
both true b e = refl
both false b e = absurd cc

first_wrong : (a b : Bool) → a ≡ false → (a && b) ≡ false
first_wrong true b e = absurd cc
first_wrong false b e = refl

alone : (a : Bool) → (a && true) ≡ a
alone true = refl
alone false = refl

pub turn_right : (sessions : ℕ) (text word rest : List ℕ) → Some (word, rest) ≡ word_at text → is_some (turn_of sessions word) ≡ true → are_turns sessions (parts_of text) ≡ are_turns sessions (parts_of rest)
turn_right sessions text word rest cut right =
    ap (are_turns sessions) (first_part text word rest cut) ∙ turns-cons sessions word (parts_of rest) ∙ both _ _ right

pub turn_wrong : (sessions : ℕ) (text word rest : List ℕ) → Some (word, rest) ≡ word_at text → is_some (turn_of sessions word) ≡ false → are_turns sessions (parts_of text) ≡ false
turn_wrong sessions text word rest cut wrong =
    ap (are_turns sessions) (first_part text word rest cut) ∙ turns-cons sessions word (parts_of rest) ∙ first_wrong _ _ wrong

pub turn_last : (sessions : ℕ) (text : List ℕ) → None ≡ word_at text → are_turns sessions (parts_of text) ≡ is_some (turn_of sessions text)
unfolding are_turns
turn_last sessions text cut = ap (are_turns sessions) (last_part text cut) ∙ alone (is_some (turn_of sessions text))

-- the words of a schedule line behind its first
pub words_behind : (text word rest : List ℕ) → Some (word, rest) ≡ word_at text → schedule_words text ≡ parts_of rest
words_behind text word rest cut = ap (λ (parts : List (List ℕ)). drop 1 parts) (first_part text word rest cut)

pub no_words : (text : List ℕ) → None ≡ word_at text → schedule_words text ≡ []
no_words text cut = ap (λ (parts : List (List ℕ)). drop 1 parts) (last_part text cut)

pub has_turns : (sessions : ℕ) (text word rest : List ℕ) → Some (word, rest) ≡ word_at text → are_turns sessions (schedule_words text) ≡ are_turns sessions (parts_of rest)
has_turns sessions text word rest cut = ap (are_turns sessions) (words_behind text word rest cut)

pub has_none : (sessions : ℕ) (text : List ℕ) → None ≡ word_at text → are_turns sessions (schedule_words text) ≡ true
has_none sessions text cut = ap (are_turns sessions) (no_words text cut) ∙ turns-nil sessions

-- the forms of schedule lines
pub schedule_none : (sessions : ℕ) (text : List ℕ) → None ≡ word_at text → schedule_line sessions text ≡ None
unfolding schedule_line
schedule_none sessions text cut = rw (no_words text cut) refl

pub schedule_wrong : (sessions : ℕ) (text word rest : List ℕ) → Some (word, rest) ≡ word_at text → are_turns sessions (parts_of rest) ≡ false → schedule_line sessions text ≡ None
unfolding schedule_line
schedule_wrong sessions text word rest cut wrong = rw (words_behind text word rest cut, has_part rest, wrong) refl

pub schedule_right : (sessions : ℕ) (text word rest : List ℕ) → Some (word, rest) ≡ word_at text → are_turns sessions (parts_of rest) ≡ true → schedule_line sessions text ≡ Some (ScheduleLine (turns_of sessions (parts_of rest)))
unfolding schedule_line
schedule_right sessions text word rest cut right = rw (words_behind text word rest cut, has_part rest, right) refl

-- the turns of a text's words, cut at its first space
put_first : (o : Option Turn) (turns : List Turn) → cons_option o turns ≡ cons_option o [] ++ turns
put_first None turns = refl
put_first (Some turn) turns = refl

pub turns_cut : (sessions : ℕ) (text word rest : List ℕ) → Some (word, rest) ≡ word_at text → turns_of sessions (parts_of text) ≡ turns_of sessions (word ∷ []) ++ turns_of sessions (parts_of rest)
turns_cut sessions text word rest cut = ap (turns_of sessions) (first_part text word rest cut) ∙ put_first (turn_of sessions word) (turns_of sessions (parts_of rest))

pub turns_end : (sessions : ℕ) (text : List ℕ) → None ≡ word_at text → turns_of sessions (parts_of text) ≡ turns_of sessions (text ∷ [])
turns_end sessions text cut = ap (turns_of sessions) (last_part text cut)

-- a word is one turn at most, and none where it is empty
one_or_none : (o : Option Turn) → length (cons_option o []) ≤ 1
one_or_none None = omega arith
one_or_none (Some turn) = omega arith

pub at_most_one : (sessions : ℕ) (word : List ℕ) → length (turns_of sessions (word ∷ [])) ≤ 1
at_most_one sessions word = one_or_none (turn_of sessions word)

no_turn : (sessions : ℕ) → turn_of sessions [] ≡ None
unfolding turn_of session_number number_of is_word
no_turn sessions = refl

pub turn_has_byte : (sessions : ℕ) (word : List ℕ) → length (turns_of sessions (word ∷ [])) ≤ length word
turn_has_byte sessions [] = rw (no_turn sessions) (omega arith)
turn_has_byte sessions (byte ∷ word) = omega (arith, at_most_one sessions (byte ∷ word))
