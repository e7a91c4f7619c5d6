-- Lines that aren't refused: a call's line, and the line that is printed of it.
use Rattle.std.proofs.Common.{◌≡◌, ℕ, ◌≤◌, Bool, true, false, not, ◌||◌, ◌&&◌, List, [], ◌∷◌, ◌++◌, length, Option, Some, None, refl, sym, ap, ◌∙◌}
use Rattle.std.specs.Prelude.{codes, is_none, nat_lt}
use Rattle.std.specs.List.{list_all}
use Rattle.std.specs.Option.{option_map_or}
use Rattle.sf_types.specs.declared.limits.TheConstants.{BUFFER_BYTES}
use Rattle.sf_types.specs.declared.call.Call.{Call}
use Rattle.sf_types.specs.declared.options.Options.{Options}
use Rattle.sf_types.proofs.BoolLemmas.{neither-first}
use Rattle.sf_types.proofs.NumberLemmas.{not_less}
use Rattle.sf_script.specs.declared.fault.Reason.{Reason}
use Rattle.sf_script.specs.declared.fault.Reason.TheVariants.{Bytes, Place, Session, Form, Limit}
use Rattle.sf_script.specs.declared.reading.Reading.{Reading}
use Rattle.sf_script.specs.declared.reading.Reading.TheVariants as reads
use Rattle.sf_script.specs.LineForms.{LineForm, CallLine, form_of, call_line}
use Rattle.sf_script.specs.Lines.{Line, is_line_byte}
use Rattle.sf_script.specs.Parts.{ScriptParts}
use Rattle.sf_script.specs.Reasons.{has_wrong_bytes, is_misplaced, names_no_session, has_no_form, passes_limit, passes_call_limit, form_passes_limit, first_reason, with_call, after_form, after_line, reason_of}
use Rattle.sf_script.specs.Schedules.{ends_with_colon, session_of}
use Rattle.sf_script_calls.specs.CallTable.{call_form}
use Rattle.sf_script_calls.specs.Calls.{CallForm, spelled_call, payload_length}
use Rattle.sf_script_calls.specs.Reads.{◌>>=◌}
use Rattle.sf_script_calls.specs.Words.{first_word, word_at, is_word}
use Rattle.sf_script_print.specs.PrintedCalls.{printed_call}
use Rattle.sf_script_print.proofs.PayloadTextLemmas.{read_field}
use Rattle.sf_script_print.proofs.CallLineLemmas.{call_line_parts, session_word, IsPrintedLine, printed_line}

-- no reason of a table holds
first_none : (holds : Bool) (reason : Reason) (table : List (Bool × Reason)) → first_reason ((holds, reason) ∷ table) ≡ None → (holds ≡ false) × (first_reason table ≡ None)
first_none true reason table e = absurd cc
first_none false reason table e = (refl, e)

-- a line that isn't refused
pub record IsRight (reading : Reading) (line : Line) : Type 0 where
  pub bytes : has_wrong_bytes line ≡ false
  pub place : is_misplaced reading line.text ≡ false
  pub session : names_no_session reading line.text ≡ false
  pub form : has_no_form reading line.text ≡ false
  pub limit : passes_limit reading line.text ≡ false

pub is_right : (reading : Reading) (line : Line) → reason_of reading line ≡ None → IsRight reading line
is_right reading line e =
    let f = (passes_limit reading line.text, Limit) ∷ [] in
    let a = first_none (has_wrong_bytes line) Bytes ((is_misplaced reading line.text, Place) ∷ (names_no_session reading line.text, Session) ∷ (has_no_form reading line.text, Form) ∷ f) e in
    let b = first_none (is_misplaced reading line.text) Place ((names_no_session reading line.text, Session) ∷ (has_no_form reading line.text, Form) ∷ f) a.1 in
    let d = first_none (names_no_session reading line.text) Session ((has_no_form reading line.text, Form) ∷ f) b.1 in
    let g = first_none (has_no_form reading line.text) Form f d.1 in
    let h = first_none (passes_limit reading line.text) Limit [] g.1 in
    record { bytes = a.0; place = b.0; session = d.0; form = g.0; limit = h.0 }

pub no_reason : (reading : Reading) (line : Line) → IsRight reading line → reason_of reading line ≡ None
no_reason reading line is = rw (is.bytes, is.place, is.session, is.form, is.limit) refl

-- its bytes, and the line feed behind it
pub line_parts : (line : Line) → has_wrong_bytes line ≡ false → (line.ended ≡ true) × (list_all is_line_byte line.text ≡ true)
unfolding has_wrong_bytes
line_parts line is = go line.ended (list_all is_line_byte line.text) is
  where
    go : (ended all : Bool) → (not ended || not all) ≡ false → (ended ≡ true) × (all ≡ true)
    go true true e = (refl, refl)
    go true false e = absurd cc
    go false all e = absurd cc

pub right_bytes : (text : List ℕ) → list_all is_line_byte text ≡ true → has_wrong_bytes (record { text = text; ended = true }) ≡ false
unfolding has_wrong_bytes
right_bytes text all = rw all refl

-- its form
pub record HasForm (reading : Reading) (text : List ℕ) : Type 0 where
  pub form : LineForm
  pub is : form_of reading text ≡ Some form
  pub limit : form_passes_limit reading form ≡ false
  pub after : after_line reading text ≡ after_form reading form

pub has_form : (reading : Reading) (line : Line) → IsRight reading line → HasForm reading line.text
has_form reading line is = go (form_of reading line.text) refl is.form is.limit
  where
    go : (o : Option LineForm) → form_of reading line.text ≡ o → is_none o ≡ false → option_map_or (form_passes_limit reading) o false ≡ false → HasForm reading line.text
    go (Some form) e some limit = record { form = form; is = e; limit = limit; after = ap (λ (o : Option LineForm). option_map_or (after_form reading) o reading) e }
    go None e some limit = absurd cc

-- the call of a call's line
record IsCall (sessions : ℕ) (text : List ℕ) (line : LineForm) : Type 0 where
  session : ℕ
  form : CallForm
  is : line ≡ CallLine session form
  read : call_line sessions text ≡ Some (CallLine session form)

call_of : (sessions : ℕ) (text : List ℕ) (line : LineForm) → call_line sessions text ≡ Some line → IsCall sessions text line
unfolding call_line
call_of sessions text line e =
    let a = read_field (word_at text) (λ word. (session_of sessions word.0 >>= λ session. (call_form word.1 >>= λ form. Some (CallLine session form)))) line e in
    let s = read_field (session_of sessions a.item.0) (λ session. (call_form a.item.1 >>= λ form. Some (CallLine session form))) line a.others in
    let f = read_field (call_form a.item.1) (λ form. Some (CallLine s.item form)) line s.others in
    let same : line ≡ CallLine s.item f.item = cc in
    record { session = s.item; form = f.item; is = same; read = e ∙ ap (λ (l : LineForm). Some l) same }

-- a script with these calls that has no schedule
abbrev pub script_with : Options → ℕ → List (List Call) → ScriptParts
script_with options sessions calls = record { options = options; sessions = sessions; calls = calls; turns = [] }

-- a session's call whose printed line is read wherever the limits leave room
pub record IsPrintable (sessions session : ℕ) (call : Call) : Type 0 where
  pub line : List ℕ
  pub printed : printed_call session call ≡ line ++ 10 ∷ []
  pub in_line : list_all is_line_byte line ≡ true
  pub short : payload_length call ≤ BUFFER_BYTES
  pub right : (options : Options) (calls : List (List Call)) → passes_call_limit (script_with options sessions calls) (payload_length call) ≡ false → reason_of (reads.Sessions (script_with options sessions calls)) (record { text = line; ended = true }) ≡ None
  pub after : (options : Options) (calls : List (List Call)) → after_line (reads.Sessions (script_with options sessions calls)) line ≡ reads.Sessions (with_call (script_with options sessions calls) session call)

-- a call that was read
pub record IsCallRead (options : Options) (sessions : ℕ) (calls : List (List Call)) (text : List ℕ) : Type 0 where
  pub session : ℕ
  pub call : Call
  pub low : 1 ≤ session
  pub high : session ≤ sessions
  pub room : passes_call_limit (script_with options sessions calls) (payload_length call) ≡ false
  pub after : after_line (reads.Sessions (script_with options sessions calls)) text ≡ reads.Sessions (with_call (script_with options sessions calls) session call)
  pub again : IsPrintable sessions session call
  pub size : length again.line ≤ length text

pub small_payload : (parts : ScriptParts) (bytes : ℕ) → passes_call_limit parts bytes ≡ false → bytes ≤ BUFFER_BYTES
small_payload parts bytes is = not_less BUFFER_BYTES bytes (neither-first (nat_lt BUFFER_BYTES bytes) _ (neither-first _ _ is))

same_place : (sessions : ℕ) (options others : Options) (calls more : List (List Call)) (text line : List ℕ) → first_word line ≡ first_word text → is_misplaced (reads.Sessions (script_with others sessions more)) line ≡ is_misplaced (reads.Sessions (script_with options sessions calls)) text
unfolding is_misplaced
same_place sessions options others calls more text line first = ap (λ (w : List ℕ). not (is_word (codes "schedule") w || true && ends_with_colon w)) first

by_session : (parts : ScriptParts) (text : List ℕ) → is_word (codes "schedule") (first_word text) ≡ false → names_no_session (reads.Sessions parts) text ≡ is_none (session_of parts.sessions (first_word text))
unfolding names_no_session
by_session parts text none = rw none refl

form_by_call : (parts : ScriptParts) (text : List ℕ) → is_word (codes "schedule") (first_word text) ≡ false → form_of (reads.Sessions parts) text ≡ call_line parts.sessions text
form_by_call parts text none = rw none refl

limit_of_call : (parts : ScriptParts) (session : ℕ) (form : CallForm) → form_passes_limit (reads.Sessions parts) (CallLine session form) ≡ passes_call_limit parts (payload_length (spelled_call form))
unfolding form_passes_limit
limit_of_call parts session form = refl

right_again : (options others : Options) (sessions : ℕ) (calls more : List (List Call)) (text : List ℕ) (session : ℕ) (form : CallForm) (made : IsPrintedLine sessions text session form)
    → is_word (codes "schedule") (first_word text) ≡ false → list_all is_line_byte text ≡ true
    → is_misplaced (reads.Sessions (script_with options sessions calls)) text ≡ false → names_no_session (reads.Sessions (script_with options sessions calls)) text ≡ false
    → passes_call_limit (script_with others sessions more) (payload_length (spelled_call form)) ≡ false
    → IsRight (reads.Sessions (script_with others sessions more)) (record { text = made.line; ended = true })
right_again options others sessions calls more text session form made none in-text place named limit =
    let before = script_with options sessions calls in
    let parts = script_with others sessions more in
    let none-here : is_word (codes "schedule") (first_word made.line) ≡ false = ap (is_word (codes "schedule")) made.first ∙ none in
    let read : form_of (reads.Sessions parts) made.line ≡ Some (CallLine session made.next) = form_by_call parts made.line none-here ∙ made.read in
    let reading = reads.Sessions parts in
    record {
      bytes = right_bytes made.line (made.in_line in-text);
      place = same_place sessions options others calls more text made.line made.first ∙ place;
      session = by_session parts made.line none-here ∙ ap (λ (w : List ℕ). is_none (session_of sessions w)) made.first ∙ sym (by_session before text none) ∙ named;
      form = ap (λ (o : Option LineForm). is_none o) read;
      limit = ap (λ (o : Option LineForm). option_map_or (form_passes_limit reading) o false) read ∙ limit_of_call parts session made.next ∙ ap (λ (c : Call). passes_call_limit parts (payload_length c)) made.same ∙ limit;
    }

after_again : (options : Options) (sessions : ℕ) (calls : List (List Call)) (text : List ℕ) (session : ℕ) (form : CallForm) (made : IsPrintedLine sessions text session form)
    → is_word (codes "schedule") (first_word text) ≡ false
    → after_line (reads.Sessions (script_with options sessions calls)) made.line ≡ reads.Sessions (with_call (script_with options sessions calls) session (spelled_call form))
after_again options sessions calls text session form made none =
    let parts = script_with options sessions calls in
    let reading = reads.Sessions parts in
    let none-here : is_word (codes "schedule") (first_word made.line) ≡ false = ap (is_word (codes "schedule")) made.first ∙ none in
    let read : form_of reading made.line ≡ Some (CallLine session made.next) = form_by_call parts made.line none-here ∙ made.read in
    ap (λ (o : Option LineForm). option_map_or (after_form reading) o reading) read ∙ ap (λ (c : Call). reads.Sessions (with_call parts session c)) made.same

pub call_read : (options : Options) (sessions : ℕ) (calls : List (List Call)) (line : Line)
    → IsRight (reads.Sessions (script_with options sessions calls)) line → is_word (codes "schedule") (first_word line.text) ≡ false
    → IsCallRead options sessions calls line.text
call_read options sessions calls line right none =
    let parts = script_with options sessions calls in
    let form = has_form (reads.Sessions parts) line right in
    let found = call_of sessions line.text form.form (sym (form_by_call parts line.text none) ∙ form.is) in
    let session = found.session in
    let call = found.form in
    let in-text = (line_parts line right.bytes).1 in
    let limit : form_passes_limit (reads.Sessions parts) (CallLine session call) ≡ false = ap (form_passes_limit (reads.Sessions parts)) (sym found.is) ∙ form.limit in
    let room = sym (limit_of_call parts session call) ∙ limit in
    let short = small_payload parts (payload_length (spelled_call call)) room in
    let made = printed_line sessions line.text session call found.read short in
    let cut = call_line_parts sessions line.text session call found.read in
    let named = session_word sessions cut.word session cut.is_session in
    record {
      session = session;
      call = spelled_call call;
      low = named.low;
      high = named.high;
      room = room;
      after = form.after ∙ ap (after_form (reads.Sessions parts)) found.is;
      again = record {
        line = made.line;
        printed = made.printed;
        in_line = made.in_line in-text;
        short = short;
        right = λ others more left.
            no_reason (reads.Sessions (script_with others sessions more)) (record { text = made.line; ended = true })
            (right_again options others sessions calls more line.text session call made none in-text right.place right.session left);
        after = λ others more. after_again others sessions more line.text session call made none;
      };
      size = made.size;
    }
