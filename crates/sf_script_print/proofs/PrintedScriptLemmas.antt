-- A printed script is read as the script that it was made of.
use Rattle.std.proofs.Common.{◌≡◌, ℕ, zero, suc, ◌+◌, ◌^◌, ◌<◌, ◌≤◌, Bool, true, false, not, ◌&&◌, ◌||◌, cond, List, [], ◌∷◌, ◌++◌, length, replicate, Option, Some, Result, Ok, refl, sym, ap, ◌∙◌, arith}
use Rattle.std.specs.Prelude.{codes, nat_le, nat_lt, is_none}
use Rattle.std.specs.Fmt.{decimal}
use Rattle.std.specs.Option.{option_map_or}
use Rattle.std.proofs.lemmas.Bool.{and_parts, le-leb, le-ltb}
use Rattle.std.proofs.lemmas.List.{append-nil, length-append, length-replicate}
use Rattle.std.proofs.lemmas.Option.{cond_some}
use Rattle.sf_types.specs.Limits.{standard_options}
use Rattle.sf_types.specs.declared.limits.TheConstants.{STORE_SESSIONS}
use Rattle.sf_types.specs.declared.call.Call.{Call}
use Rattle.sf_types.specs.declared.options.Options.{Options}
use Rattle.sf_types.proofs.BoolLemmas.{not_not}
use Rattle.sf_types.proofs.NumberLemmas.{at_most, not_less}
use Rattle.sf_script.specs.declared.fault.Reason.TheVariants.{Size}
use Rattle.sf_script.specs.declared.fault.ScriptFault.{ScriptFault}
use Rattle.sf_script.specs.declared.limits.TheConstants.{SCRIPT_BYTES}
use Rattle.sf_script.specs.declared.option_line.OptionLine.{OptionLine}
use Rattle.sf_script.specs.declared.reading.Reading.{Reading}
use Rattle.sf_script.specs.declared.reading.Reading.TheVariants as reads
use Rattle.sf_script.specs.LineForms.{LineForm, HeaderLine, SetsOption, SessionsLine, form_of, header_line, sessions_line, option_line}
use Rattle.sf_script.specs.Lines.{Line, lines_of}
use Rattle.sf_script.specs.OptionLines.{OptionParts, option_of, option_rank, is_option_in_range, rank_of}
use Rattle.sf_script.specs.Parts.{ScriptParts}
use Rattle.sf_script.specs.Reasons.{is_misplaced, names_no_session, form_passes_limit, new_script, no_options, with_option_read, after_form, after_line}
use Rattle.sf_script.specs.Scripts.{fault_at, script_at_end, script_from, script_of}
use Rattle.sf_script_calls.specs.Numbers.{number_of}
use Rattle.sf_script_calls.specs.Reads.{◌>>=◌}
use Rattle.sf_script_calls.specs.Words.{first_word, word_at, is_word}
use Rattle.sf_script_print.specs.PrintedCalls.{spaced}
use Rattle.sf_script_print.specs.Printing.{printed, printed_sessions, printed_options, printed_turns}
use Rattle.sf_script_print.proofs.LinesReadLemmas.{right_script, line_read, lines_read, none_read}
use Rattle.sf_script_print.proofs.NumberTextLemmas.{number_text}
use Rattle.sf_script_print.proofs.OptionAgainLemmas.{IsReadFrom, options_again}
use Rattle.sf_script_print.proofs.OptionLineLemmas.{sessions_read as sessions_line_read}
use Rattle.sf_script_print.proofs.OptionReadLemmas.{option_text, text_of_option, later_rank, CanSet, AreSet, AreUnset, none_set, all_unset, set_next, numbered_in_line}
use Rattle.sf_script_print.proofs.PayloadTextLemmas.{read_field}
use Rattle.sf_script_print.proofs.RightLineLemmas.{IsRight, no_reason, line_parts, right_bytes, has_form, script_with}
use Rattle.sf_script_print.proofs.ScheduleReadLemmas.{scheduled, schedule_again}
use Rattle.sf_script_print.proofs.SessionLemmas.{AllSessions, AreWellRead, AreLinesRead, calls_read, no_counts, no_payloads, sessions_read}
use Rattle.sf_script_print.proofs.TextLineLemmas.{lines_size, ended_size, size_of_lines, six_parts}
use Rattle.sf_script_print.proofs.WordLemmas.{cut_of, first_of_cut, spelled}

-- a script of sessions without calls
all_empty : (sessions session number : ℕ) → AllSessions sessions session (replicate number [])
all_empty sessions session zero = tt
all_empty sessions session (suc number) = (tt, all_empty sessions (session + 1) number)

no_calls : (sessions : ℕ) → AreWellRead sessions (replicate sessions [])
no_calls sessions = record {
  all = all_empty sessions 1 sessions;
  count = length-replicate sessions [];
  few = omega (arith, no_counts sessions);
  small = omega (arith, no_payloads sessions);
}

no_calls_size : (session number : ℕ) → length (printed_sessions session (replicate number [])) ≡ 0
no_calls_size session zero = refl
no_calls_size session (suc number) = no_calls_size (session + 1) number

-- the header
abbrev header : List ℕ
header = codes "securefiles 1"

header_is : (text : List ℕ) (form : LineForm) → header_line text ≡ Some form → (text ≡ header) × (HeaderLine ≡ form)
unfolding header_line
header_is text form e =
    let p = cond_some (is_word (codes "securefiles 1") text) HeaderLine form e in
    (spelled (codes "securefiles 1") text p.0, p.1)

-- a sessions line
abbrev sessions_text : ℕ → List ℕ
sessions_text number = codes "sessions" ++ 32 ∷ decimal number

record IsSessionsForm (text : List ℕ) (form : LineForm) : Type 0 where
  number : ℕ
  is : form ≡ SessionsLine number
  text_is : text ≡ sessions_text number

record IsOptionForm (text : List ℕ) (form : LineForm) : Type 0 where
  option : OptionLine
  is : form ≡ SetsOption option
  text_is : text ≡ option_text option

-- a line between the header and the calls
data HeadForm (text : List ℕ) (form : LineForm) : Type 0 where
  OfSessions : IsSessionsForm text form → HeadForm text form
  OfOption : IsOptionForm text form → HeadForm text form

head_form : (text : List ℕ) (form : LineForm) → option_line text ≡ Some form → HeadForm text form
unfolding option_line
head_form text form e =
    let a = read_field (word_at text) (λ word. cond (is_word (codes "sessions") word.0) (sessions_line word.1) (option_of word.0 word.1 >>= λ option. Some (SetsOption option))) form e in
    by_word a.item.0 a.item.1 a.is (is_word (codes "sessions") a.item.0) refl a.others
  where
    by_word : (word rest : List ℕ) → word_at text ≡ Some (word, rest) → (test : Bool) → is_word (codes "sessions") word ≡ test
        → cond test (sessions_line rest) (option_of word rest >>= λ option. Some (SetsOption option)) ≡ Some form → HeadForm text form
    by_word word rest cut true named is =
        let n = read_field (number_of rest) (λ number. Some (SessionsLine number)) form is in
        let same : form ≡ SessionsLine n.item = cc in
        OfSessions (record {
          number = n.item;
          is = same;
          text_is = (cut_of text word rest cut).whole
              ∙ ap (λ (w : List ℕ). w ++ 32 ∷ rest) (spelled (codes "sessions") word named)
              ∙ ap (λ (r : List ℕ). codes "sessions" ++ 32 ∷ r) (number_text rest n.item n.is).printed;
        })
    by_word word rest cut false named is =
        let o = read_field (option_of word rest) (λ option. Some (SetsOption option)) form is in
        let same : form ≡ SetsOption o.item = cc in
        OfOption (record { option = o.item; is = same; text_is = (cut_of text word rest cut).whole ∙ text_of_option word rest o.item o.is })

-- a number of sessions that a script may have
record IsSessions (sessions : ℕ) : Type 0 where
  low : 1 ≤ sessions
  high : sessions ≤ STORE_SESSIONS

sessions_limit : (read : OptionParts) (number : ℕ) → form_passes_limit (reads.Options read) (SessionsLine number) ≡ not (nat_le 1 number && nat_le number STORE_SESSIONS)
unfolding form_passes_limit
sessions_limit read number = refl

option_limit : (read : OptionParts) (option : OptionLine) → form_passes_limit (reads.Options read) (SetsOption option) ≡ not (is_option_in_range option)
unfolding form_passes_limit
option_limit read option = refl

in_sessions : (read : OptionParts) (number : ℕ) → form_passes_limit (reads.Options read) (SessionsLine number) ≡ false → IsSessions number
in_sessions read number limit =
    let p = and_parts (nat_le 1 number) (nat_le number STORE_SESSIONS) (not_not (nat_le 1 number && nat_le number STORE_SESSIONS) (sym (sessions_limit read number) ∙ limit)) in
    record { low = at_most 1 number p.0; high = at_most number STORE_SESSIONS p.1 }

-- the lines up to the sessions line, and those behind it
record IsHeadRead (before : Options) (lines : List Line) (script : ScriptParts) : Type 0 where
  options : Options
  set : AreSet options
  sessions : ℕ
  are : IsSessions sessions
  rest : List Line
  number : ℕ
  read : script_from number (reads.Sessions (new_script options sessions)) rest ≡ Ok script
  size : length (printed_options options) + length (sessions_text sessions) + 1 + lines_size rest ≤ length (printed_options before) + lines_size lines

head_read : (options : Options) (rank : ℕ) (lines : List Line) (script : ScriptParts) (number : ℕ) → AreSet options → AreUnset options rank
    → script_from number (reads.Options (record { options = options; rank = rank })) lines ≡ Ok script → IsHeadRead options lines script
head_read options rank [] script number set unset e =
    let short : script_at_end number (reads.Options (record { options = options; rank = rank })) ≡ Ok script = sym (none_read number (reads.Options (record { options = options; rank = rank }))) ∙ e in
    absurd cc
head_read options rank (line ∷ lines) script number set unset e =
    let read : OptionParts = record { options = options; rank = rank } in
    let reading = reads.Options read in
    let p = line_read number reading line lines script e in
    let form = has_form reading line p.0 in
    by_form form.form (head_form line.text form.form form.is) p.0 form.limit form.after p.1
    (λ next place set unset others. head_read next place lines script (number + 1) set unset others)
  where
    by_form : (form : LineForm) → HeadForm line.text form → IsRight (reads.Options (record { options = options; rank = rank })) line
        → form_passes_limit (reads.Options (record { options = options; rank = rank })) form ≡ false
        → after_line (reads.Options (record { options = options; rank = rank })) line.text ≡ after_form (reads.Options (record { options = options; rank = rank })) form
        → script_from (number + 1) (after_line (reads.Options (record { options = options; rank = rank })) line.text) lines ≡ Ok script
        → ((next : Options) (place : ℕ) → AreSet next → AreUnset next place → script_from (number + 1) (reads.Options (record { options = next; rank = place })) lines ≡ Ok script → IsHeadRead next lines script)
        → IsHeadRead options (line ∷ lines) script
    by_form form (OfSessions is) right limit after others behind =
        let read : OptionParts = record { options = options; rank = rank } in
        let next : after_line (reads.Options read) line.text ≡ reads.Sessions (new_script options is.number) = after ∙ ap (after_form (reads.Options read)) is.is in
        record {
          options = options;
          set = set;
          sessions = is.number;
          are = in_sessions read is.number (ap (form_passes_limit (reads.Options read)) (sym is.is) ∙ limit);
          rest = lines;
          number = number + 1;
          read = ap (λ (r : Reading). script_from (number + 1) r lines) (sym next) ∙ others;
          size = omega (arith, ended_size line (line_parts line right.bytes).0, ap length is.text_is);
        }
    by_form form (OfOption is) right limit after others behind =
        let read : OptionParts = record { options = options; rank = rank } in
        let next : after_line (reads.Options read) line.text ≡ reads.Options (with_option_read read is.option) = after ∙ ap (after_form (reads.Options read)) is.is in
        let can : CanSet is.option = record {
          range = not_not (is_option_in_range is.option) (sym (option_limit read is.option) ∙ ap (form_passes_limit (reads.Options read)) (sym is.is) ∙ limit);
        } in
        let more = set_next options rank is.option set unset (later_rank read line.text is.option is.text_is right.place) can in
        let rest = behind (with_option_read read is.option).options (rank_of is.option) more.set more.unset
        (ap (λ (r : Reading). script_from (number + 1) r lines) (sym next) ∙ others) in
        record {
          options = rest.options;
          set = rest.set;
          sessions = rest.sessions;
          are = rest.are;
          rest = rest.rest;
          number = rest.number;
          read = rest.read;
          size = omega (arith, rest.size, more.size, ended_size line (line_parts line right.bytes).0, ap length is.text_is);
        }

-- the standard options have no lines
no_options_size : length (printed_options standard_options) ≡ 0
unfolding printed_options
no_options_size = refl

-- a printed sessions line isn't refused
sessions_place : (read : OptionParts) (text : List ℕ) → first_word text ≡ codes "sessions" → is_misplaced (reads.Options read) text ≡ false
unfolding is_misplaced is_word
sessions_place read text first = rw first (by_rank (nat_lt read.rank (option_rank (codes "sessions"))))
  where
    by_rank : (test : Bool) → not (test || true) ≡ false
    by_rank true = refl
    by_rank false = refl

sessions_again : (options : Options) (rank sessions : ℕ) (rest : List ℕ) (script : ScriptParts) (number : ℕ) → IsSessions sessions
    → ((n : ℕ) → script_from n (reads.Sessions (new_script options sessions)) (lines_of rest) ≡ Ok script)
    → script_from number (reads.Options (record { options = options; rank = rank })) (lines_of (sessions_text sessions ++ 10 ∷ rest)) ≡ Ok script
unfolding names_no_session
sessions_again options rank sessions rest script number are others =
    let read : OptionParts = record { options = options; rank = rank } in
    let reading = reads.Options read in
    let text = sessions_text sessions in
    let small : sessions < 2 ^ 64 = omega (arith, are.high) in
    let in-line = numbered_in_line (codes "sessions") sessions refl small in
    let form : form_of reading text ≡ Some (SessionsLine sessions) = sessions_line_read sessions are.low small in
    let first : first_word text ≡ codes "sessions" = first_of_cut (codes "sessions") (decimal sessions) refl in
    let right : IsRight reading (record { text = text; ended = true }) = record {
      bytes = right_bytes text in-line;
      place = sessions_place read text first;
      session = refl;
      form = ap (λ (o : Option LineForm). is_none o) form;
      limit = ap (λ (o : Option LineForm). option_map_or (form_passes_limit reading) o false) form ∙ sessions_limit read sessions ∙ rw (le-leb 1 sessions are.low, le-leb sessions STORE_SESSIONS are.high) refl;
    } in
    let after : after_line reading text ≡ reads.Sessions (new_script options sessions) = ap (λ (o : Option LineForm). option_map_or (after_form reading) o reading) form in
    lines_read number reading (reads.Sessions (new_script options sessions)) text rest script in-line (no_reason reading (record { text = text; ended = true }) right) after (others (number + 1))

-- the text of a script
text_of : (script : ScriptParts) → printed script ≡ header ++ 10 ∷ (printed_options script.options ++ (sessions_text script.sessions ++ 10 ∷ (printed_sessions 1 script.calls ++ printed_turns script.turns)))
unfolding printed
text_of script =
    let options = printed_options script.options in
    let calls = printed_sessions 1 script.calls in
    let turns = printed_turns script.turns in
    ap (λ (t : List ℕ). header ++ (10 ∷ t))
    (six_parts options (codes "sessions") (spaced (decimal script.sessions ∷ [])) (10 ∷ []) calls turns
    ∙ ap (λ (t : List ℕ). options ++ (codes "sessions" ++ (32 ∷ (t ++ (10 ∷ (calls ++ turns)))))) (append-nil (decimal script.sessions)))

-- what is proved of a script that was read
pub record IsPrinted (bytes : List ℕ) (script : ScriptParts) : Type 0 where
  pub again : script_of (printed script) ≡ Ok script
  pub no_longer : length (printed script) ≤ length bytes

-- the lines of a script, read once more
all_again : (options : Options) (sessions : ℕ) (script : ScriptParts) (before : List (List Call)) (lines : List Line) → AreSet options → IsSessions sessions
    → (read : AreLinesRead options sessions before lines script) → (number : ℕ)
    → script_from number (reads.Options no_options) (lines_of (printed_options options ++ (sessions_text sessions ++ 10 ∷ (printed_sessions 1 read.calls ++ printed_turns read.turns)))) ≡ Ok script
all_again options sessions script before lines set are read number =
    let calls = printed_sessions 1 read.calls ++ printed_turns read.turns in
    let small : sessions < 2 ^ 64 = omega (arith, are.high) in
    let turns : (n : ℕ) → script_from n (reads.Sessions (script_with options sessions read.calls)) (lines_of (printed_turns read.turns)) ≡ Ok script =
    λ n. schedule_again options sessions read.calls read.turns n small read.schedule ∙ ap right_script read.is in
    let empty : replicate (length read.calls) [] ≡ replicate sessions [] = ap (λ (n : ℕ). replicate n []) read.well.count in
    let all : (n : ℕ) → script_from n (reads.Sessions (new_script options sessions)) (lines_of calls) ≡ Ok script =
    λ n. ap (λ (c : List (List Call)). script_from n (reads.Sessions (script_with options sessions c)) (lines_of calls)) (sym empty)
    ∙ sessions_read options sessions 1 [] read.calls (printed_turns read.turns) script (omega arith) read.well.all (omega (arith, read.well.few)) (omega (arith, read.well.small)) turns n in
    let head : IsReadFrom options 5 (sessions_text sessions ++ 10 ∷ calls) script = λ rank n low. sessions_again options rank sessions calls script n are all in
    options_again options (sessions_text sessions ++ 10 ∷ calls) script set head 0 number (omega arith)

header_right : (line : Line) → IsRight reads.Nothing line → line.text ≡ header → IsRight reads.Nothing (record { text = header; ended = true })
header_right line right same = record {
  bytes = right_bytes header refl;
  place = ap (is_misplaced reads.Nothing) (sym same) ∙ right.place;
  session = ap (names_no_session reads.Nothing) (sym same) ∙ right.session;
  form = ap (λ (t : List ℕ). is_none (form_of reads.Nothing t)) (sym same) ∙ right.form;
  limit = ap (λ (t : List ℕ). option_map_or (form_passes_limit reads.Nothing) (form_of reads.Nothing t) false) (sym same) ∙ right.limit;
}

by_lines : (bytes : List ℕ) (lines : List Line) (script : ScriptParts) → length bytes ≤ SCRIPT_BYTES → lines_size lines ≤ length bytes → script_from 1 reads.Nothing lines ≡ Ok script → IsPrinted bytes script
unfolding script_of
by_lines bytes [] script small fits e =
    let short : script_at_end 1 reads.Nothing ≡ Ok script = sym (none_read 1 reads.Nothing) ∙ e in
    absurd cc
by_lines bytes (line ∷ lines) script small fits e =
    let p = line_read 1 reads.Nothing line lines script e in
    let form = has_form reads.Nothing line p.0 in
    let is = header_is line.text form.form form.is in
    let after : after_line reads.Nothing line.text ≡ reads.Options no_options = form.after ∙ ap (after_form reads.Nothing) (sym is.1) in
    let head = head_read standard_options 0 lines script 2 none_set all_unset (ap (λ (r : Reading). script_from 2 r lines) (sym after) ∙ p.1) in
    let calls = calls_read head.options head.sessions (replicate head.sessions []) head.rest script head.number (no_calls head.sessions) head.read in
    let behind = printed_sessions 1 calls.calls ++ printed_turns calls.turns in
    let text = printed_options head.options ++ (sessions_text head.sessions ++ 10 ∷ behind) in
    let whole : printed script ≡ header ++ 10 ∷ text = ap printed (sym calls.is) ∙ text_of (scheduled head.options head.sessions calls.calls calls.turns) in
    let head_size : length line.text ≡ 13 = ap length is.0 in
    let text_size : length text ≡ length (printed_options head.options) + (length (sessions_text head.sessions) + (1 + (length (printed_sessions 1 calls.calls) + length (printed_turns calls.turns)))) =
    omega (arith, length-append (printed_options head.options) (sessions_text head.sessions ++ 10 ∷ behind), length-append (sessions_text head.sessions) (10 ∷ behind), length-append (printed_sessions 1 calls.calls) (printed_turns calls.turns)) in
    let size : length (printed script) ≤ length bytes =
    omega (arith, ap length whole, text_size, head_size, ended_size line (line_parts line p.0.bytes).0, head.size, no_options_size, calls.size, no_calls_size 1 head.sessions, fits) in
    let right = no_reason reads.Nothing (record { text = header; ended = true }) (header_right line p.0 is.0) in
    let again = all_again head.options head.sessions script (replicate head.sessions []) head.rest head.set head.are calls 2 in
    let read : script_from 1 reads.Nothing (lines_of (printed script)) ≡ Ok script =
    ap (λ (t : List ℕ). script_from 1 reads.Nothing (lines_of t)) whole
    ∙ lines_read 1 reads.Nothing (reads.Options no_options) header text script refl right (ap (after_line reads.Nothing) (sym is.0) ∙ after) again in
    record { again = rw (le-ltb SCRIPT_BYTES (length (printed script)) (omega (arith, size, small))) read; no_longer = size }

not_large : (large : Bool) (rest : Result ScriptParts ScriptFault) (script : ScriptParts) → cond large (fault_at 0 Size) rest ≡ Ok script → (large ≡ false) × (rest ≡ Ok script)
not_large true rest script e = absurd cc
not_large false rest script e = (refl, e)

pub printed_again : (bytes : List ℕ) (script : ScriptParts) → script_of bytes ≡ Ok script → IsPrinted bytes script
unfolding script_of
printed_again bytes script e =
    let p = not_large (nat_lt SCRIPT_BYTES (length bytes)) (script_from 1 reads.Nothing (lines_of bytes)) script e in
    by_lines bytes (lines_of bytes) script (not_less SCRIPT_BYTES (length bytes) p.0) (size_of_lines bytes) p.1
