-- Schedule lines that were read, and the one line that is printed of them.
use Rattle.std.proofs.Common.{◌≡◌, ℕ, ◌+◌, ◌^◌, ◌<◌, ◌≤◌, suc, Bool, true, false, not, ◌&&◌, ◌||◌, cond, List, [], ◌∷◌, ◌++◌, length, take, drop, map, Option, Some, None, Ok, refl, sym, ap, ◌∙◌, arith}
use Rattle.std.specs.Prelude.{codes, nat_le, is_none, is_some}
use Rattle.std.specs.Fmt.{decimal}
use Rattle.std.specs.List.{list_all, cons_option, join_with_byte, onto_first, position_or_len}
use Rattle.std.specs.Option.{option_map_or}
use Rattle.std.proofs.lemmas.Bool.{and_parts, le-ltb}
use Rattle.std.proofs.lemmas.Grind.{flat_map-append}
use Rattle.std.proofs.lemmas.List.{length-append, append-nil, map-append}
use Rattle.std.proofs.lemmas.List.Folds.{list_all-append}
use Rattle.std.proofs.lemmas.List.Splits.{join_with_byte-slice_split}
use Rattle.std.proofs.lemmas.Option.{cond_some}
use Rattle.sf_types.specs.declared.call.Call.{Call}
use Rattle.sf_types.specs.declared.options.Options.{Options}
use Rattle.sf_types.proofs.NumberLemmas.{at_most, not_less}
use Rattle.sf_script.specs.declared.limits.TheConstants.{SCRIPT_TURNS}
use Rattle.sf_script.specs.declared.reading.Reading.{Reading}
use Rattle.sf_script.specs.declared.reading.Reading.TheVariants as reads
use Rattle.sf_script.specs.declared.turn.Turn.{Turn}
use Rattle.sf_script.specs.declared.turn.Turn.TheVariants as turn_kinds
use Rattle.sf_script.specs.LineForms.{LineForm, ScheduleLine, form_of, schedule_line}
use Rattle.sf_script.specs.Lines.{Line, is_line_byte, lines_of}
use Rattle.sf_script.specs.Parts.{ScriptParts, names_session}
use Rattle.sf_script.specs.Scripts.{script_from}
use Rattle.sf_script.specs.Reasons.{is_misplaced, names_no_session, form_passes_limit, passes_turn_limit, with_turns, after_form, after_line}
use Rattle.sf_script.specs.Schedules.{ends_with_colon, session_number, turn_of, are_turns, turns_of, schedule_words}
use Rattle.sf_script_calls.specs.Numbers.{is_digit, is_empty_list, number_of}
use Rattle.sf_script_calls.specs.Reads.{◌>>=◌}
use Rattle.sf_script_calls.specs.Words.{is_space, first_word, parts_of, is_word}
use Rattle.sf_script_print.specs.PrintedCalls.{spaced}
use Rattle.sf_script_print.specs.Printing.{turn_word, printed_turns}
use Rattle.sf_script_print.proofs.LinesReadLemmas.{line_read, lines_read, none_read, no_text_read, same_script}
use Rattle.sf_script_print.proofs.NumberTextLemmas.{number_text, is_of_digits}
use Rattle.sf_script_print.proofs.PayloadSizeLemmas.{all_pass, both_all, digit_in_line}
use Rattle.sf_script_print.proofs.PayloadTextLemmas.{read_field}
use Rattle.sf_script_print.proofs.RightLineLemmas.{IsRight, no_reason, has_form, line_parts, right_bytes, script_with}
use Rattle.sf_script_print.proofs.ScheduleLemmas.{schedule_read, schedule_words_read}
use Rattle.sf_script_print.proofs.TextLineLemmas.{lines_size, ended_size}
use Rattle.sf_script_print.proofs.WordLemmas.{first_of_cut, spelled}

-- a script with these calls and this schedule
abbrev pub scheduled : Options → ℕ → List (List Call) → List Turn → ScriptParts
scheduled options sessions calls turns = record { options = options; sessions = sessions; calls = calls; turns = turns }

-- a word that was read as a turn is the turn's word
record IsTurnWord (sessions : ℕ) (word : List ℕ) (turn : Turn) : Type 0 where
  word_is : turn_word turn ≡ word
  named : names_session sessions turn ≡ true

session_word_of : (sessions : ℕ) (word : List ℕ) (turn : Turn) → (session_number sessions word >>= λ session. Some (turn_kinds.Session session)) ≡ Some turn → IsTurnWord sessions word turn
unfolding session_number
session_word_of sessions word turn e =
    let s = read_field (number_of word >>= λ number. cond (nat_le 1 number && nat_le number sessions) (Some number) None) (λ session. Some (turn_kinds.Session session)) turn e in
    let same : turn_kinds.Session s.item ≡ turn = cc in
    let n = read_field (number_of word) (λ number. cond (nat_le 1 number && nat_le number sessions) (Some number) None) s.item s.is in
    let p = cond_some (nat_le 1 n.item && nat_le n.item sessions) n.item s.item n.others in
    record {
      word_is = ap turn_word (sym same) ∙ ap decimal (sym p.1) ∙ sym (number_text word n.item n.is).printed;
      named = ap (names_session sessions) (sym same) ∙ ap (λ (number : ℕ). nat_le 1 number && nat_le number sessions) (sym p.1) ∙ p.0;
    }

turn_word_of : (sessions : ℕ) (word : List ℕ) (turn : Turn) → turn_of sessions word ≡ Some turn → IsTurnWord sessions word turn
unfolding turn_of
turn_word_of sessions word turn e = by_reclaim (is_word (codes "r") word) (is_word (codes "shrink") word) refl refl e
  where
    by_reclaim : (reclaim shrink : Bool) → is_word (codes "r") word ≡ reclaim → is_word (codes "shrink") word ≡ shrink
        → cond reclaim (Some turn_kinds.Reclaim) (cond shrink (Some turn_kinds.Shrink) (session_number sessions word >>= λ session. Some (turn_kinds.Session session))) ≡ Some turn
        → IsTurnWord sessions word turn
    by_reclaim true shrink r s is =
        let same : turn_kinds.Reclaim ≡ turn = cc in
        record { word_is = ap turn_word (sym same) ∙ sym (spelled (codes "r") word r); named = ap (names_session sessions) (sym same) }
    by_reclaim false true r s is =
        let same : turn_kinds.Shrink ≡ turn = cc in
        record { word_is = ap turn_word (sym same) ∙ sym (spelled (codes "shrink") word s); named = ap (names_session sessions) (sym same) }
    by_reclaim false false r s is = session_word_of sessions word turn is

-- so are words
record AreTurnWords (sessions : ℕ) (words : List (List ℕ)) : Type 0 where
  words_are : map turn_word (turns_of sessions words) ≡ words
  named : list_all (names_session sessions) (turns_of sessions words) ≡ true

turn_words_of : (sessions : ℕ) (words : List (List ℕ)) → are_turns sessions words ≡ true → AreTurnWords sessions words
unfolding are_turns
turn_words_of sessions [] all = record { words_are = refl; named = refl }
turn_words_of sessions (word ∷ words) all =
    let p = and_parts (is_some (turn_of sessions word)) (list_all (λ word. is_some (turn_of sessions word)) words) all in
    by_turn (turn_of sessions word) refl p.0 (turn_words_of sessions words p.1)
  where
    by_turn : (o : Option Turn) → turn_of sessions word ≡ o → is_some o ≡ true → AreTurnWords sessions words → AreTurnWords sessions (word ∷ words)
    by_turn (Some turn) e some others =
        let one = turn_word_of sessions word turn e in
        let turns : turns_of sessions (word ∷ words) ≡ turn ∷ turns_of sessions words = ap (λ (o : Option Turn). cons_option o (turns_of sessions words)) e in
        record {
          words_are = ap (map turn_word) turns ∙ ap (λ (w : List ℕ). w ∷ map turn_word (turns_of sessions words)) one.word_is ∙ ap (λ (ws : List (List ℕ)). word ∷ ws) others.words_are;
          named = ap (list_all (names_session sessions)) turns ∙ rw one.named others.named;
        }
    by_turn None e some others = absurd cc

-- a text is its first word and the words behind it
spaced_parts : (first : List ℕ) (words : List (List ℕ)) → join_with_byte 32 (first ∷ words) ≡ first ++ spaced words
spaced_parts first [] = sym (append-nil first)
spaced_parts first (word ∷ words) = ap (λ (t : List ℕ). first ++ 32 ∷ t) (spaced_parts word words)

first_part : (test : Bool) (byte : ℕ) (text : List ℕ) → parts_of text ≡ first_word text ∷ schedule_words text
    → cond test ([] ∷ parts_of text) (onto_first byte (parts_of text)) ≡ take (cond (not test) (1 + position_or_len is_space text) 0) (byte ∷ text) ∷ drop 1 (cond test ([] ∷ parts_of text) (onto_first byte (parts_of text)))
first_part true byte text e = refl
first_part false byte text e =
    let next : 1 + position_or_len is_space text ≡ suc (position_or_len is_space text) = omega arith in
    rw (e, next) refl

parts_are : (text : List ℕ) → parts_of text ≡ first_word text ∷ schedule_words text
parts_are [] = refl
parts_are (byte ∷ text) = first_part (is_space byte) byte text (parts_are text)

spaced_text : (text : List ℕ) → text ≡ first_word text ++ spaced (schedule_words text)
spaced_text text = sym (join_with_byte-slice_split 32 text) ∙ ap (join_with_byte 32) (parts_are text) ∙ spaced_parts (first_word text) (schedule_words text)

-- a schedule line that was read
pub record IsScheduleRead (parts : ScriptParts) (text : List ℕ) : Type 0 where
  pub turns : List Turn
  pub some : 1 ≤ length turns
  pub named : list_all (names_session parts.sessions) turns ≡ true
  pub room : length parts.turns + length turns ≤ SCRIPT_TURNS
  pub size : length text ≡ 8 + length (spaced (map turn_word turns))
  pub after : after_line (reads.Sessions parts) text ≡ reads.Sessions (with_turns parts turns)

limit_of_turns : (parts : ScriptParts) (turns : List Turn) → form_passes_limit (reads.Sessions parts) (ScheduleLine turns) ≡ passes_turn_limit parts (length turns)
unfolding form_passes_limit
limit_of_turns parts turns = refl

some_turns : (words : List (List ℕ)) (turns : List Turn) → not (is_empty_list words) ≡ true → map turn_word turns ≡ words → 1 ≤ length turns
some_turns words [] some e = let none : is_empty_list words ≡ true = ap (λ (ws : List (List ℕ)). is_empty_list ws) (sym e) in absurd cc
some_turns words (turn ∷ turns) some e = omega arith

form_by_schedule : (parts : ScriptParts) (text : List ℕ) → is_word (codes "schedule") (first_word text) ≡ true → form_of (reads.Sessions parts) text ≡ schedule_line parts.sessions text
form_by_schedule parts text first = rw first refl

pub schedule_line_read : (parts : ScriptParts) (line : Line) → IsRight (reads.Sessions parts) line → is_word (codes "schedule") (first_word line.text) ≡ true → IsScheduleRead parts line.text
unfolding schedule_line
schedule_line_read parts line right first =
    let reading = reads.Sessions parts in
    let form = has_form reading line right in
    let words = schedule_words line.text in
    let p = cond_some (not (is_empty_list words) && are_turns parts.sessions words) (ScheduleLine (turns_of parts.sessions words)) form.form (sym (form_by_schedule parts line.text first) ∙ form.is) in
    let both = and_parts (not (is_empty_list words)) (are_turns parts.sessions words) p.0 in
    let turns = turns_of parts.sessions words in
    let are = turn_words_of parts.sessions words both.1 in
    let text_is : line.text ≡ codes "schedule" ++ spaced (map turn_word turns) =
    spaced_text line.text ∙ ap (λ (w : List ℕ). w ++ spaced words) (spelled (codes "schedule") (first_word line.text) first) ∙ ap (λ (ws : List (List ℕ)). codes "schedule" ++ spaced ws) (sym are.words_are) in
    let limit : passes_turn_limit parts (length turns) ≡ false = sym (limit_of_turns parts turns) ∙ ap (form_passes_limit reading) p.1 ∙ form.limit in
    record {
      turns = turns;
      some = some_turns words turns both.0 are.words_are;
      named = are.named;
      room = not_less SCRIPT_TURNS (length parts.turns + length turns) limit;
      size = omega (arith, ap length text_is, length-append (codes "schedule") (spaced (map turn_word turns)));
      after = form.after ∙ ap (after_form reading) (sym p.1);
    }

-- a schedule that is printed in one line
pub record IsSchedule (sessions : ℕ) (turns : List Turn) : Type 0 where
  pub named : list_all (names_session sessions) turns ≡ true
  pub few : length turns ≤ SCRIPT_TURNS

pub no_schedule : (sessions : ℕ) → IsSchedule sessions []
no_schedule sessions = record { named = refl; few = omega arith }

pub no_turns_size : length (printed_turns []) ≡ 0
unfolding printed_turns
no_turns_size = refl

turns_size : (turns : List Turn) → 1 ≤ length turns → length (printed_turns turns) ≡ 9 + length (spaced (map turn_word turns))
unfolding printed_turns
turns_size [] some = absurd (omega arith)
turns_size (turn ∷ turns) some = omega (arith, length-append (spaced (map turn_word (turn ∷ turns))) (10 ∷ []))

more_size : (turns more : List Turn) → length (spaced (map turn_word (turns ++ more))) ≡ length (spaced (map turn_word turns)) + length (spaced (map turn_word more))
more_size turns more =
    ap (λ (ws : List (List ℕ)). length (spaced ws)) (map-append turn_word turns more)
    ∙ ap length (flat_map-append (λ word. 32 ∷ word) (map turn_word turns) (map turn_word more))
    ∙ length-append (spaced (map turn_word turns)) (spaced (map turn_word more))

-- what schedule lines add to the turns before them
pub record AreTurnsRead (options : Options) (sessions : ℕ) (calls : List (List Call)) (before : List Turn) (lines : List Line) (script : ScriptParts) : Type 0 where
  pub turns : List Turn
  pub is : scheduled options sessions calls turns ≡ script
  pub schedule : IsSchedule sessions turns
  pub size : length (printed_turns turns) ≤ 9 + length (spaced (map turn_word before)) + lines_size lines

-- behind a schedule line only such lines stand
only_schedule : (parts : ScriptParts) (text : List ℕ) → 1 ≤ length parts.turns → is_misplaced (reads.Sessions parts) text ≡ false → is_word (codes "schedule") (first_word text) ≡ true
unfolding is_misplaced
only_schedule parts text some e = by_turns parts.turns some (is_word (codes "schedule") (first_word text)) e
  where
    by_turns : (turns : List Turn) → 1 ≤ length turns → (test : Bool) → not (test || not (not (is_empty_list turns)) && ends_with_colon (first_word text)) ≡ false → test ≡ true
    by_turns [] some test e = absurd (omega arith)
    by_turns (turn ∷ turns) some true e = refl
    by_turns (turn ∷ turns) some false e = absurd cc

pub turn_lines_read : (options : Options) (sessions : ℕ) (calls : List (List Call)) (before : List Turn) (lines : List Line) (script : ScriptParts) (number : ℕ)
    → 1 ≤ length before → list_all (names_session sessions) before ≡ true → length before ≤ SCRIPT_TURNS
    → script_from number (reads.Sessions (scheduled options sessions calls before)) lines ≡ Ok script → AreTurnsRead options sessions calls before lines script
turn_lines_read options sessions calls before [] script number some named few e = record {
  turns = before;
  is = same_script (scheduled options sessions calls before) script (sym (none_read number (reads.Sessions (scheduled options sessions calls before))) ∙ e);
  schedule = record { named = named; few = few };
  size = omega (arith, turns_size before some);
}
turn_lines_read options sessions calls before (line ∷ lines) script number some named few e =
    let parts = scheduled options sessions calls before in
    let p = line_read number (reads.Sessions parts) line lines script e in
    let one = schedule_line_read parts line p.0 (only_schedule parts line.text some p.0.place) in
    let both = before ++ one.turns in
    let sizes = length-append before one.turns in
    let rest = turn_lines_read options sessions calls both lines script (number + 1)
    (omega (arith, sizes))
    (list_all-append (names_session sessions) before one.turns ∙ rw (named, one.named) refl)
    (omega (arith, sizes, one.room))
    (ap (λ (r : Reading). script_from (number + 1) r lines) (sym one.after) ∙ p.1) in
    record {
      turns = rest.turns;
      is = rest.is;
      schedule = rest.schedule;
      size = omega (arith, rest.size, more_size before one.turns, one.size, ended_size line (line_parts line p.0.bytes).0);
    }

-- the bytes of a schedule line
word_in_line : (sessions : ℕ) (turn : Turn) → sessions < 2 ^ 64 → names_session sessions turn ≡ true → list_all is_line_byte (turn_word turn) ≡ true
word_in_line sessions (turn_kinds.Session session) small named =
    let range = and_parts (nat_le 1 session) (nat_le session sessions) named in
    let high = at_most session sessions range.1 in
    all_pass is_digit is_line_byte digit_in_line (decimal session) (is_of_digits session (omega arith))
word_in_line sessions turn_kinds.Reclaim small named = refl
word_in_line sessions turn_kinds.Shrink small named = refl

words_in_line : (sessions : ℕ) (turns : List Turn) → sessions < 2 ^ 64 → list_all (names_session sessions) turns ≡ true → list_all is_line_byte (spaced (map turn_word turns)) ≡ true
words_in_line sessions [] small all = refl
words_in_line sessions (turn ∷ turns) small all =
    let p = and_parts (names_session sessions turn) (list_all (names_session sessions) turns) all in
    both_all is_line_byte (turn_word turn) (spaced (map turn_word turns)) (word_in_line sessions turn small p.0) (words_in_line sessions turns small p.1)

-- a printed schedule line isn't refused
schedule_place : (parts : ScriptParts) (text : List ℕ) → is_word (codes "schedule") (first_word text) ≡ true → is_misplaced (reads.Sessions parts) text ≡ false
unfolding is_misplaced
schedule_place parts text first = rw first refl

schedule_sessions : (parts : ScriptParts) (text : List ℕ) → is_word (codes "schedule") (first_word text) ≡ true → are_turns parts.sessions (schedule_words text) ≡ true → names_no_session (reads.Sessions parts) text ≡ false
unfolding names_no_session
schedule_sessions parts text first all = rw (first, all) refl

schedule_right : (parts : ScriptParts) (turn : Turn) (turns : List Turn) → parts.sessions < 2 ^ 64 → list_all (names_session parts.sessions) (turn ∷ turns) ≡ true
    → length parts.turns + length (turn ∷ turns) ≤ SCRIPT_TURNS
    → IsRight (reads.Sessions parts) (record { text = codes "schedule" ++ spaced (map turn_word (turn ∷ turns)); ended = true })
unfolding is_word
schedule_right parts turn turns small named few =
    let words = map turn_word (turn ∷ turns) in
    let text = codes "schedule" ++ spaced words in
    let reading = reads.Sessions parts in
    let first : is_word (codes "schedule") (first_word text) ≡ true = ap (is_word (codes "schedule")) (first_of_cut (codes "schedule") (turn_word turn ++ spaced (map turn_word turns)) refl) in
    let form = schedule_read parts turn turns small named in
    record {
      bytes = right_bytes text (words_in_line parts.sessions (turn ∷ turns) small named);
      place = schedule_place parts text first;
      session = schedule_sessions parts text first (schedule_words_read parts.sessions turn turns small named);
      form = ap (λ (o : Option LineForm). is_none o) form;
      limit = ap (λ (o : Option LineForm). option_map_or (form_passes_limit reading) o false) form ∙ limit_of_turns parts (turn ∷ turns) ∙ le-ltb SCRIPT_TURNS (length parts.turns + length (turn ∷ turns)) few;
    }

-- a printed schedule is read behind the calls
pub schedule_again : (options : Options) (sessions : ℕ) (calls : List (List Call)) (turns : List Turn) (number : ℕ) → sessions < 2 ^ 64 → IsSchedule sessions turns
    → script_from number (reads.Sessions (script_with options sessions calls)) (lines_of (printed_turns turns)) ≡ Ok (scheduled options sessions calls turns)
unfolding printed_turns
schedule_again options sessions calls [] number small is = no_text_read number (reads.Sessions (script_with options sessions calls))
schedule_again options sessions calls (turn ∷ turns) number small is =
    let parts = script_with options sessions calls in
    let next = scheduled options sessions calls (turn ∷ turns) in
    let text = codes "schedule" ++ spaced (map turn_word (turn ∷ turns)) in
    let right = schedule_right parts turn turns small is.named (omega (arith, is.few)) in
    let after : after_line (reads.Sessions parts) text ≡ reads.Sessions next = ap (λ (o : Option LineForm). option_map_or (after_form (reads.Sessions parts)) o (reads.Sessions parts)) (schedule_read parts turn turns small is.named) in
    lines_read number (reads.Sessions parts) (reads.Sessions next) text [] next (words_in_line sessions (turn ∷ turns) small is.named)
    (no_reason (reads.Sessions parts) (record { text = text; ended = true }) right) after
    (no_text_read (number + 1) (reads.Sessions next))
