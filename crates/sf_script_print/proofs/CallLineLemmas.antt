-- A call's line is read as it is printed.
use Rattle.std.proofs.Common.{◌≡◌, ℕ, suc, ◌-◌, ◌≤◌, Bool, true, false, ◌&&◌, cond, List, [], ◌∷◌, ◌++◌, length, take, drop, get_or, Option, Some, None, refl, sym, ap, ◌∙◌, arith}
use Rattle.std.specs.Prelude.{nat_le, ◌==◌, slice_index}
use Rattle.std.specs.Fmt.{decimal}
use Rattle.std.specs.List.{list_all}
use Rattle.std.proofs.Math.Seq.{drop-length}
use Rattle.std.proofs.lemmas.Bool.{and_parts}
use Rattle.std.proofs.lemmas.List.{length-append}
use Rattle.std.proofs.lemmas.List.Folds.{list_all-append}
use Rattle.std.proofs.lemmas.Option.{cond_some}
use Rattle.sf_types.specs.declared.limits.TheConstants.{BUFFER_BYTES}
use Rattle.sf_types.proofs.ListLemmas.{parts-at}
use Rattle.sf_types.proofs.NumberLemmas.{same_number, at_most}
use Rattle.sf_script.specs.LineForms.{LineForm, CallLine, call_line}
use Rattle.sf_script.specs.Lines.{is_line_byte}
use Rattle.sf_script.specs.Schedules.{ends_with_colon, session_number, session_of}
use Rattle.sf_script_calls.specs.declared.call.PayloadCall.{PayloadCall}
use Rattle.sf_script_calls.specs.declared.call.PayloadCall.TheVariants as wants
use Rattle.sf_script_calls.specs.CallTable.{call_form}
use Rattle.sf_script_calls.specs.Calls.{CallForm, Plain, WithPayload, call_with, spelled_call, payload_length}
use Rattle.sf_script_calls.specs.Numbers.{number_of}
use Rattle.sf_script_calls.specs.Payloads.{bytes_of}
use Rattle.sf_script_calls.specs.Reads.{◌>>=◌}
use Rattle.sf_script_calls.specs.Words.{first_word, word_at}
use Rattle.sf_script_print.specs.PrintedCalls.{call_text, printed_text, printed_payload, printed_call}
use Rattle.sf_script_print.proofs.WordLemmas.{IsCut, cut_of}
use Rattle.sf_script_print.proofs.NumberTextLemmas.{number_text}
use Rattle.sf_script_print.proofs.PayloadTextLemmas.{read_field, payload_text}
use Rattle.sf_script_print.proofs.PayloadPrintLemmas.{read_payload}
use Rattle.sf_script_print.proofs.PayloadSizeLemmas.{some_bytes, low_bytes, no_longer_payload, payload_in_line, both_all}
use Rattle.sf_script_print.proofs.CallLemmas.{IsCallText, call_text_of}

-- the session that a call line's first word names
cond_there : {X : Type 0} (b : Bool) (o : Option X) (x : X) → cond b o None ≡ Some x → (b ≡ true) × (o ≡ Some x)
cond_there true o x e = (refl, e)
cond_there false o x e = absurd cc

pub record IsSessionWord (sessions : ℕ) (word : List ℕ) (session : ℕ) : Type 0 where
  pub spelled : word ≡ decimal session ++ 58 ∷ []
  pub low : 1 ≤ session
  pub high : session ≤ sessions

last_byte : (word : List ℕ) → 1 ≤ length word → word ≡ take (length word - 1) word ++ get_or word (length word - 1) 0 ∷ []
last_byte word some =
    let parts = parts-at word (length word - 1) 0 (omega arith) in
    let end : suc (length word - 1) ≡ length word = omega arith in
    let none : drop (suc (length word - 1)) word ≡ [] = ap (λ (n : ℕ). drop n word) end ∙ drop-length word in
    parts ∙ ap (λ (r : List ℕ). take (length word - 1) word ++ get_or word (length word - 1) 0 ∷ r) none

pub session_word : (sessions : ℕ) (word : List ℕ) (session : ℕ) → session_of sessions word ≡ Some session → IsSessionWord sessions word session
unfolding session_of session_number
session_word sessions word session e =
    let a = cond_there (ends_with_colon word) (number_of (take (length word - 1) word) >>= λ number. cond (nat_le 1 number && nat_le number sessions) (Some number) None) session e in
    let b = and_parts (nat_le 1 (length word)) (slice_index word (length word - 1) == 58) a.0 in
    let n = read_field (number_of (take (length word - 1) word)) (λ number. cond (nat_le 1 number && nat_le number sessions) (Some number) None) session a.1 in
    let p = cond_some (nat_le 1 n.item && nat_le n.item sessions) n.item session n.others in
    let range = and_parts (nat_le 1 n.item) (nat_le n.item sessions) p.0 in
    let text = (number_text (take (length word - 1) word) n.item n.is).printed in
    let colon = same_number (slice_index word (length word - 1)) 58 b.1 in
    record {
      spelled = last_byte word (at_most 1 (length word) b.0)
          ∙ ap (λ (t : List ℕ). t ++ get_or word (length word - 1) 0 ∷ []) (text ∙ ap decimal p.1)
          ∙ ap (λ (c : ℕ). decimal session ++ c ∷ []) colon;
      low = omega (arith, at_most 1 n.item range.0, p.1);
      high = omega (arith, at_most n.item sessions range.1, p.1);
    }

-- the parts of a call's line
pub record IsCallLine (sessions : ℕ) (text : List ℕ) (session : ℕ) (form : CallForm) : Type 0 where
  pub word : List ℕ
  pub rest : List ℕ
  pub cut : word_at text ≡ Some (word, rest)
  pub is_session : session_of sessions word ≡ Some session
  pub call : call_form rest ≡ Some form

session_in : ℕ → CallForm → LineForm → ℕ
session_in session form (CallLine s f) = s
session_in session form other = session

form_in : ℕ → CallForm → LineForm → CallForm
form_in session form (CallLine s f) = f
form_in session form other = form

pub call_line_parts : (sessions : ℕ) (text : List ℕ) (session : ℕ) (form : CallForm) → call_line sessions text ≡ Some (CallLine session form) → IsCallLine sessions text session form
unfolding call_line session_in form_in
call_line_parts sessions text session form e =
    let a = read_field (word_at text) (λ word. (session_of sessions word.0 >>= λ session. (call_form word.1 >>= λ form. Some (CallLine session form)))) (CallLine session form) e in
    let s = read_field (session_of sessions a.item.0) (λ session. (call_form a.item.1 >>= λ form. Some (CallLine session form))) (CallLine session form) a.others in
    let f = read_field (call_form a.item.1) (λ form. Some (CallLine s.item form)) (CallLine session form) s.others in
    let same : CallLine s.item f.item ≡ CallLine session form = cc in
    record {
      word = a.item.0;
      rest = a.item.1;
      cut = a.is;
      is_session = s.is ∙ ap (λ (l : LineForm). Some (session_in session form l)) same;
      call = f.is ∙ ap (λ (l : LineForm). Some (form_in session form l)) same;
    }

pub call_line_is : (sessions : ℕ) (text word rest : List ℕ) (session : ℕ) (form : CallForm) → word_at text ≡ Some (word, rest) → session_of sessions word ≡ Some session → call_form rest ≡ Some form → call_line sessions text ≡ Some (CallLine session form)
unfolding call_line
call_line_is sessions text word rest session form cut is-session call = rw (cut, is-session, call) refl

-- the line that is printed of a call that was read
pub record IsPrintedLine (sessions : ℕ) (text : List ℕ) (session : ℕ) (form : CallForm) : Type 0 where
  pub line : List ℕ
  pub printed : printed_call session (spelled_call form) ≡ line ++ 10 ∷ []
  pub next : CallForm
  pub read : call_line sessions line ≡ Some (CallLine session next)
  pub same : spelled_call next ≡ spelled_call form
  pub first : first_word line ≡ first_word text
  pub size : length line ≤ length text
  pub in_line : list_all is_line_byte text ≡ true → list_all is_line_byte line ≡ true

printed_parts : (session : ℕ) (word rest text : List ℕ) → word ≡ decimal session ++ 58 ∷ [] → text ≡ 32 ∷ rest → decimal session ++ 58 ∷ [] ++ text ++ 10 ∷ [] ≡ (word ++ 32 ∷ rest) ++ 10 ∷ []
printed_parts session word rest text spelled is =
    ap (λ (w : List ℕ). w ++ text ++ 10 ∷ []) (sym spelled) ∙ ap (λ (t : List ℕ). word ++ t ++ 10 ∷ []) is

length_of_payload : (call : PayloadCall) (bytes : List ℕ) → payload_length (call_with call bytes) ≡ length bytes
length_of_payload (wants.Instr at offset) bytes = refl
length_of_payload (wants.Write at offset) bytes = refl
length_of_payload (wants.WriteAppend at) bytes = refl
length_of_payload (wants.FragInsert at offset) bytes = refl
length_of_payload (wants.FragReplace at old_amount offset) bytes = refl

all_first : (a b : List ℕ) → list_all is_line_byte (a ++ b) ≡ true → list_all is_line_byte a ≡ true
all_first a b all = (and_parts (list_all is_line_byte a) (list_all is_line_byte b) (sym (list_all-append is_line_byte a b) ∙ all)).0

all_second : (a b : List ℕ) → list_all is_line_byte (a ++ b) ≡ true → list_all is_line_byte b ≡ true
all_second a b all = (and_parts (list_all is_line_byte a) (list_all is_line_byte b) (sym (list_all-append is_line_byte a b) ∙ all)).1

-- the parts of a line whose payload is printed anew
record IsRespelled (text word rest front : List ℕ) (old new : List ℕ) : Type 0 where
  size : length (word ++ 32 ∷ (front ++ new)) ≤ length text
  in_line : list_all is_line_byte text ≡ true → list_all is_line_byte (word ++ 32 ∷ (front ++ new)) ≡ true

respelled : (text word rest front old new : List ℕ) → text ≡ word ++ 32 ∷ rest → rest ≡ front ++ old → length new ≤ length old → list_all is_line_byte new ≡ true → IsRespelled text word rest front old new
respelled text word rest front old new whole parts shorter all =
    let text_is : text ≡ word ++ 32 ∷ (front ++ old) = whole ∙ ap (λ (r : List ℕ). word ++ 32 ∷ r) parts in
    record {
      size = omega (arith, ap length text_is, length-append word (32 ∷ (front ++ old)), length-append word (32 ∷ (front ++ new)), length-append front old, length-append front new);
      in_line = λ in_text.
          let both = ap (list_all is_line_byte) (sym text_is) ∙ in_text in
          let second = all_second word (32 ∷ (front ++ old)) both in
          both_all is_line_byte word (32 ∷ (front ++ new)) (all_first word (32 ∷ (front ++ old)) both) (both_all is_line_byte front new (all_first front old second) all);
    }

with_form : (sessions : ℕ) (text : List ℕ) (session : ℕ) (form : CallForm) (parts : IsCallLine sessions text session form) → IsCut text parts.word parts.rest → IsSessionWord sessions parts.word session → IsCallText parts.rest form → payload_length (spelled_call form) ≤ BUFFER_BYTES → IsPrintedLine sessions text session form
unfolding printed_call
with_form sessions text session (Plain call) parts cut named is small = record {
  line = text;
  printed = printed_parts session parts.word parts.rest (printed_text (call_text call)) named.spelled is ∙ ap (λ (t : List ℕ). t ++ 10 ∷ []) (sym cut.whole);
  next = Plain call;
  read = call_line_is sessions text parts.word parts.rest session (Plain call) parts.cut parts.is_session parts.call;
  same = refl;
  first = refl;
  size = omega arith;
  in_line = λ in_text. in_text;
}
with_form sessions text session (WithPayload call payload) parts cut named is small =
    let bytes = bytes_of payload in
    let shown = payload_text is.payload_text payload is.read in
    let few : length bytes ≤ BUFFER_BYTES = omega (arith, length_of_payload call bytes) in
    let again = read_payload bytes (some_bytes is.payload_text bytes shown) (omega arith) (low_bytes is.payload_text bytes shown) in
    let made = respelled text parts.word parts.rest is.front is.payload_text (printed_payload bytes) cut.whole is.whole (no_longer_payload is.payload_text bytes shown (omega arith)) (payload_in_line bytes (omega arith) (low_bytes is.payload_text bytes shown)) in
    record {
      line = parts.word ++ 32 ∷ (is.front ++ printed_payload bytes);
      printed = printed_parts session parts.word (is.front ++ printed_payload bytes) (printed_text (call_text (call_with call bytes))) named.spelled (is.printed bytes);
      next = WithPayload call again.payload;
      read = call_line_is sessions (parts.word ++ 32 ∷ (is.front ++ printed_payload bytes)) parts.word (is.front ++ printed_payload bytes) session (WithPayload call again.payload) (cut.again (is.front ++ printed_payload bytes)) parts.is_session (is.again (printed_payload bytes) again.payload again.read);
      same = ap (call_with call) again.same;
      first = cut.first_again (is.front ++ printed_payload bytes) ∙ sym cut.first;
      size = made.size;
      in_line = made.in_line;
    }

pub printed_line : (sessions : ℕ) (text : List ℕ) (session : ℕ) (form : CallForm) → call_line sessions text ≡ Some (CallLine session form) → payload_length (spelled_call form) ≤ BUFFER_BYTES → IsPrintedLine sessions text session form
printed_line sessions text session form e small =
    let parts = call_line_parts sessions text session form e in
    with_form sessions text session form parts (cut_of text parts.word parts.rest parts.cut) (session_word sessions parts.word session parts.is_session) (call_text_of parts.rest form parts.call) small
