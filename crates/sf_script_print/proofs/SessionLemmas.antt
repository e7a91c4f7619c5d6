-- The calls of sessions: printed in the order of sessions, they are read as they were.
use Rattle.std.proofs.Common.{◌≡◌, ℕ, zero, suc, ◌+◌, ◌-◌, ◌<◌, ◌≤◌, Bool, true, false, ◌||◌, List, [], ◌∷◌, ◌++◌, length, replicate, get_or, Ok, refl, sym, ap, ◌∙◌, subst, arith}
use Rattle.std.specs.Prelude.{codes, nat_lt, slice_set, slice_index_or}
use Rattle.std.specs.List.{sum_by}
use Rattle.std.proofs.lemmas.Bool.{le-ltb}
use Rattle.std.proofs.lemmas.Grind.{flat_map-append}
use Rattle.std.proofs.lemmas.List.{length-append, length-set, append_assoc, append-nil}
use Rattle.std.proofs.lemmas.List.Folds.{sum_by-replicate}
use Rattle.std.proofs.lemmas.List.Sums.{sum_by-append, sum_by-cons, sum_by-set}
use Rattle.sf_types.specs.declared.limits.TheConstants.{BUFFER_BYTES}
use Rattle.sf_types.specs.declared.call.Call.{Call}
use Rattle.sf_types.specs.declared.options.Options.{Options}
use Rattle.sf_types.proofs.NumberLemmas.{not_less}
use Rattle.sf_script.specs.declared.limits.TheConstants.{SCRIPT_CALLS, SCRIPT_PAYLOAD_BYTES}
use Rattle.sf_script.specs.declared.reading.Reading.{Reading}
use Rattle.sf_script.specs.declared.reading.Reading.TheVariants as reads
use Rattle.sf_script.specs.declared.turn.Turn.{Turn}
use Rattle.sf_script.specs.Lines.{Line, lines_of}
use Rattle.sf_script.specs.Parts.{ScriptParts, call_count, payload_bytes}
use Rattle.sf_script.specs.Scripts.{script_from}
use Rattle.sf_script.specs.Reasons.{after_line, with_call, passes_call_limit}
use Rattle.sf_script_calls.specs.Calls.{payload_length}
use Rattle.sf_script_calls.specs.Words.{first_word, is_word}
use Rattle.sf_script_print.specs.PrintedCalls.{printed_call}
use Rattle.sf_script_print.specs.Printing.{printed_calls, printed_sessions, printed_turns}
use Rattle.sf_script_print.proofs.LinesReadLemmas.{line_read, lines_read, none_read, same_script}
use Rattle.sf_script_print.proofs.RightLineLemmas.{IsRight, script_with, IsPrintable, call_read, line_parts}
use Rattle.sf_script_print.proofs.ScheduleReadLemmas.{scheduled, IsSchedule, no_schedule, no_turns_size, schedule_line_read, turn_lines_read}
use Rattle.sf_script_print.proofs.TextLineLemmas.{lines_size, ended_size}

-- the calls of sessions with one more of a session
abbrev pub put : List (List Call) → ℕ → Call → List (List Call)
put calls at call = slice_set calls at (slice_index_or calls at [] ++ call ∷ [])

-- each call of a session, and of this session and those behind it
abbrev pub AllCalls : ℕ → ℕ → List Call → Type 0
AllCalls sessions session [] = Unit {0}
AllCalls sessions session (call ∷ calls) = IsPrintable sessions session call × AllCalls sessions session calls

abbrev pub AllSessions : ℕ → ℕ → List (List Call) → Type 0
AllSessions sessions session [] = Unit {0}
AllSessions sessions session (calls ∷ others) = AllCalls sessions session calls × AllSessions sessions (session + 1) others

one_more : (sessions session : ℕ) (calls : List Call) (call : Call) → AllCalls sessions session calls → IsPrintable sessions session call → AllCalls sessions session (calls ++ call ∷ [])
one_more sessions session [] call all is = (is, tt)
one_more sessions session (first ∷ calls) call all is = (all.0, one_more sessions session calls call all.1 is)

all_put : (sessions from : ℕ) (calls : List (List Call)) (at session : ℕ) (call : Call) → session ≡ from + at → at < length calls → AllSessions sessions from calls → IsPrintable sessions session call → AllSessions sessions from (put calls at call)
all_put sessions from [] at session call e lt all is = absurd (omega arith)
all_put sessions from (calls ∷ others) zero session call e lt all is =
    let same : session ≡ from = omega arith in
    (one_more sessions from calls call all.0 (subst (λ (s : ℕ). IsPrintable sessions s call) same is), all.1)
all_put sessions from (calls ∷ others) (suc at) session call e lt all is = (all.0, all_put sessions (from + 1) others at session call (omega arith) (omega arith) all.1 is)

put_size : (from : ℕ) (calls : List (List Call)) (at session : ℕ) (call : Call) → session ≡ from + at → at < length calls → length (printed_sessions from (put calls at call)) ≡ length (printed_sessions from calls) + length (printed_call session call)
put_size from [] at session call e lt = absurd (omega arith)
put_size from (calls ∷ others) zero session call e lt =
    let same : length (printed_call session call) ≡ length (printed_call from call) = ap (λ (s : ℕ). length (printed_call s call)) (omega arith) in
    let more : length (printed_calls from (calls ++ call ∷ [])) ≡ length (printed_calls from calls ++ (printed_call from call ++ [])) = ap length (flat_map-append (printed_call from) calls (call ∷ [])) in
    omega (arith, same, more, length-append (printed_calls from (calls ++ call ∷ [])) (printed_sessions (from + 1) others), length-append (printed_calls from calls) (printed_sessions (from + 1) others), length-append (printed_calls from calls) (printed_call from call ++ []), length-append (printed_call from call) [])
put_size from (calls ∷ others) (suc at) session call e lt =
    omega (arith, put_size (from + 1) others at session call (omega arith) (omega arith), length-append (printed_calls from calls) (printed_sessions (from + 1) (put others at call)), length-append (printed_calls from calls) (printed_sessions (from + 1) others))

put_count : (calls : List (List Call)) (at : ℕ) (call : Call) → at < length calls → call_count (put calls at call) ≡ call_count calls + 1
put_count calls at call lt = omega (arith, sum_by-set length calls at (get_or calls at [] ++ call ∷ []) [] lt, length-append (get_or calls at []) (call ∷ []))

put_payload : (calls : List (List Call)) (at : ℕ) (call : Call) → at < length calls → payload_bytes (put calls at call) ≡ payload_bytes calls + payload_length call
put_payload calls at call lt =
    let more : sum_by payload_length (get_or calls at [] ++ call ∷ []) ≡ sum_by payload_length (get_or calls at []) + sum_by payload_length (call ∷ []) = sum_by-append payload_length (get_or calls at []) (call ∷ []) in
    let one : sum_by payload_length (call ∷ []) ≡ payload_length call = omega arith in
    omega (arith, sum_by-set (sum_by payload_length) calls at (get_or calls at [] ++ call ∷ []) [] lt, more, one)

-- the limits leave room for a call
record HasRoom (calls : List (List Call)) (bytes : ℕ) : Type 0 where
  few : call_count calls + 1 ≤ SCRIPT_CALLS
  small : payload_bytes calls + bytes ≤ SCRIPT_PAYLOAD_BYTES

three_false : (a b c : Bool) → (a || b || c) ≡ false → (b ≡ false) × (c ≡ false)
three_false false false c e = (refl, e)
three_false false true c e = absurd cc
three_false true b c e = absurd cc

has_room : (options : Options) (sessions : ℕ) (calls : List (List Call)) (bytes : ℕ) → passes_call_limit (script_with options sessions calls) bytes ≡ false → HasRoom calls bytes
has_room options sessions calls bytes e =
    let p = three_false (nat_lt BUFFER_BYTES bytes) (nat_lt SCRIPT_CALLS (call_count calls + 1)) (nat_lt SCRIPT_PAYLOAD_BYTES (payload_bytes calls + bytes)) e in
    record { few = not_less SCRIPT_CALLS (call_count calls + 1) p.0; small = not_less SCRIPT_PAYLOAD_BYTES (payload_bytes calls + bytes) p.1 }

leaves_room : (options : Options) (sessions : ℕ) (calls : List (List Call)) (bytes : ℕ) → bytes ≤ BUFFER_BYTES → call_count calls + 1 ≤ SCRIPT_CALLS → payload_bytes calls + bytes ≤ SCRIPT_PAYLOAD_BYTES → passes_call_limit (script_with options sessions calls) bytes ≡ false
leaves_room options sessions calls bytes short few small = rw (le-ltb BUFFER_BYTES bytes short, le-ltb SCRIPT_CALLS (call_count calls + 1) few, le-ltb SCRIPT_PAYLOAD_BYTES (payload_bytes calls + bytes) small) refl

-- the calls of a script that is being read
pub record AreWellRead (sessions : ℕ) (calls : List (List Call)) : Type 0 where
  pub all : AllSessions sessions 1 calls
  pub count : length calls ≡ sessions
  pub few : call_count calls ≤ SCRIPT_CALLS
  pub small : payload_bytes calls ≤ SCRIPT_PAYLOAD_BYTES

-- what lines add to the calls before them
pub record AreLinesRead (options : Options) (sessions : ℕ) (before : List (List Call)) (lines : List Line) (script : ScriptParts) : Type 0 where
  pub calls : List (List Call)
  pub turns : List Turn
  pub is : scheduled options sessions calls turns ≡ script
  pub well : AreWellRead sessions calls
  pub schedule : IsSchedule sessions turns
  pub size : length (printed_sessions 1 calls) + length (printed_turns turns) ≤ length (printed_sessions 1 before) + lines_size lines

-- the first schedule line and those behind it
schedule_first : (options : Options) (sessions : ℕ) (before : List (List Call)) (line : Line) (lines : List Line) (script : ScriptParts) (number : ℕ) → AreWellRead sessions before
    → IsRight (reads.Sessions (script_with options sessions before)) line → is_word (codes "schedule") (first_word line.text) ≡ true
    → script_from (number + 1) (after_line (reads.Sessions (script_with options sessions before)) line.text) lines ≡ Ok script
    → AreLinesRead options sessions before (line ∷ lines) script
schedule_first options sessions before line lines script number well right first e =
    let one = schedule_line_read (script_with options sessions before) line right first in
    let rest = turn_lines_read options sessions before one.turns lines script (number + 1) one.some one.named (omega (arith, one.room))
    (ap (λ (r : Reading). script_from (number + 1) r lines) (sym one.after) ∙ e) in
    record {
      calls = before;
      turns = rest.turns;
      is = rest.is;
      well = well;
      schedule = rest.schedule;
      size = omega (arith, rest.size, one.size, ended_size line (line_parts line right.bytes).0);
    }

pub calls_read : (options : Options) (sessions : ℕ) (before : List (List Call)) (lines : List Line) (script : ScriptParts) (number : ℕ) → AreWellRead sessions before
    → script_from number (reads.Sessions (script_with options sessions before)) lines ≡ Ok script → AreLinesRead options sessions before lines script
calls_read options sessions before [] script number well e = record {
  calls = before;
  turns = [];
  is = same_script (script_with options sessions before) script (sym (none_read number (reads.Sessions (script_with options sessions before))) ∙ e);
  well = well;
  schedule = no_schedule sessions;
  size = omega (arith, no_turns_size);
}
calls_read options sessions before (line ∷ lines) script number well e =
    let parts = line_read number (reads.Sessions (script_with options sessions before)) line lines script e in
    by_word (is_word (codes "schedule") (first_word line.text)) refl parts.0 parts.1 (λ next well others. calls_read options sessions next lines script (number + 1) well others)
  where
    by_word : (test : Bool) → is_word (codes "schedule") (first_word line.text) ≡ test → IsRight (reads.Sessions (script_with options sessions before)) line
        → script_from (number + 1) (after_line (reads.Sessions (script_with options sessions before)) line.text) lines ≡ Ok script
        → ((next : List (List Call)) → AreWellRead sessions next → script_from (number + 1) (reads.Sessions (script_with options sessions next)) lines ≡ Ok script → AreLinesRead options sessions next lines script)
        → AreLinesRead options sessions before (line ∷ lines) script
    by_word true first right others behind = schedule_first options sessions before line lines script number well right first others
    by_word false first right others behind =
        let read = call_read options sessions before line right first in
        let ended = (line_parts line right.bytes).0 in
        let at : read.session - 1 < length before = omega (arith, read.low, read.high, well.count) in
        let place : read.session ≡ 1 + (read.session - 1) = omega (arith, read.low) in
        let room = has_room options sessions before (payload_length read.call) read.room in
        let next = put before (read.session - 1) read.call in
        let rest = behind next
        (record {
          all = all_put sessions 1 before (read.session - 1) read.session read.call place at well.all read.again;
          count = length-set before (read.session - 1) _ ∙ well.count;
          few = omega (arith, put_count before (read.session - 1) read.call at, room.few);
          small = omega (arith, put_payload before (read.session - 1) read.call at, room.small);
        })
        (ap (λ (r : Reading). script_from (number + 1) r lines) (sym read.after) ∙ others) in
        record {
          calls = rest.calls;
          turns = rest.turns;
          is = rest.is;
          well = rest.well;
          schedule = rest.schedule;
          size = omega (arith, rest.size, put_size 1 before (read.session - 1) read.session read.call place at, ap length read.again.printed, length-append read.again.line (10 ∷ []), read.size, ended_size line ended);
        }

-- the calls of a session, read behind those of the sessions before it
seam : (done tail : List (List Call)) (calls : List Call) (call : Call) → put (done ++ calls ∷ tail) (length done) call ≡ done ++ (calls ++ call ∷ []) ∷ tail
seam [] tail calls call = refl
seam (first ∷ done) tail calls call = ap (λ (others : List (List Call)). first ∷ others) (seam done tail calls call)

with_next : (options : Options) (sessions session : ℕ) (done tail : List (List Call)) (calls : List Call) (call : Call) → session ≡ length done + 1 → with_call (script_with options sessions (done ++ calls ∷ tail)) session call ≡ script_with options sessions (done ++ (calls ++ call ∷ []) ∷ tail)
with_next options sessions session done tail calls call e =
    let at : session - 1 ≡ length done = omega arith in
    ap (λ (n : ℕ). script_with options sessions (put (done ++ calls ∷ tail) n call)) at ∙ ap (script_with options sessions) (seam done tail calls call)

split_sum : (f : List Call → ℕ) (done tail : List (List Call)) (calls : List Call) → sum_by f (done ++ calls ∷ tail) ≡ sum_by f done + (f calls + sum_by f tail)
split_sum f done tail calls = omega (arith, sum_by-append f done (calls ∷ tail), sum_by-cons f calls tail)

session_read : (options : Options) (sessions session : ℕ) (done tail : List (List Call)) (before calls : List Call) (rest : List ℕ) (script : ScriptParts)
    → session ≡ length done + 1 → AllCalls sessions session calls
    → call_count done + (length before + length calls + call_count tail) ≤ SCRIPT_CALLS
    → payload_bytes done + (sum_by payload_length before + sum_by payload_length calls + payload_bytes tail) ≤ SCRIPT_PAYLOAD_BYTES
    → ((number : ℕ) → script_from number (reads.Sessions (script_with options sessions (done ++ (before ++ calls) ∷ tail))) (lines_of rest) ≡ Ok script)
    → (number : ℕ) → script_from number (reads.Sessions (script_with options sessions (done ++ before ∷ tail))) (lines_of (printed_calls session calls ++ rest)) ≡ Ok script
session_read options sessions session done tail before [] rest script at all few small others number =
    ap (λ (calls : List Call). script_from number (reads.Sessions (script_with options sessions (done ++ calls ∷ tail))) (lines_of rest)) (sym (append-nil before)) ∙ others number
session_read options sessions session done tail before (call ∷ calls) rest script at all few small others number =
    let state = done ++ before ∷ tail in
    let reading = reads.Sessions (script_with options sessions state) in
    let next = reads.Sessions (script_with options sessions (done ++ (before ++ call ∷ []) ∷ tail)) in
    let behind = printed_calls session calls ++ rest in
    let one = all.0 in
    let text : printed_calls session (call ∷ calls) ++ rest ≡ one.line ++ 10 ∷ behind =
    ap (λ (t : List ℕ). t ++ printed_calls session calls ++ rest) one.printed
    ∙ append_assoc (one.line ++ 10 ∷ []) (printed_calls session calls) rest
    ∙ append_assoc one.line (10 ∷ []) behind in
    let cons : sum_by payload_length (call ∷ calls) ≡ payload_length call + sum_by payload_length calls = sum_by-cons payload_length call calls in
    let room = leaves_room options sessions state (payload_length call) one.short
    (omega (arith, split_sum length done tail before, few))
    (omega (arith, split_sum (sum_by payload_length) done tail before, cons, small)) in
    let after : after_line reading one.line ≡ next = one.after options state ∙ ap (λ (p : ScriptParts). reads.Sessions p) (with_next options sessions session done tail before call at) in
    let pushed : sum_by payload_length (before ++ call ∷ []) ≡ sum_by payload_length before + payload_length call = omega (arith, sum_by-append payload_length before (call ∷ []), sum_by-cons payload_length call []) in
    let more = session_read options sessions session done tail (before ++ call ∷ []) calls rest script at all.1
    (omega (arith, length-append before (call ∷ []), few))
    (omega (arith, pushed, cons, small))
    (λ n. ap (λ (all : List Call). script_from n (reads.Sessions (script_with options sessions (done ++ all ∷ tail))) (lines_of rest)) (append_assoc before (call ∷ []) calls) ∙ others n)
    (number + 1) in
    ap (λ (t : List ℕ). script_from number reading (lines_of t)) text
    ∙ lines_read number reading next one.line behind script one.in_line (one.right options state room) after more

pub no_counts : (number : ℕ) → call_count (replicate number []) ≡ 0
no_counts number = omega (arith, sum_by-replicate (length {A = Call}) number [])

pub no_payloads : (number : ℕ) → payload_bytes (replicate number []) ≡ 0
no_payloads number = omega (arith, sum_by-replicate (sum_by payload_length) number [])

-- the calls of sessions, read from none, with a text behind them
pub sessions_read : (options : Options) (sessions session : ℕ) (done rest : List (List Call)) (text : List ℕ) (script : ScriptParts)
    → session ≡ length done + 1 → AllSessions sessions session rest → call_count done + call_count rest ≤ SCRIPT_CALLS → payload_bytes done + payload_bytes rest ≤ SCRIPT_PAYLOAD_BYTES
    → ((number : ℕ) → script_from number (reads.Sessions (script_with options sessions (done ++ rest))) (lines_of text) ≡ Ok script)
    → (number : ℕ) → script_from number (reads.Sessions (script_with options sessions (done ++ replicate (length rest) []))) (lines_of (printed_sessions session rest ++ text)) ≡ Ok script
sessions_read options sessions session done [] text script at all few small others number = others number
sessions_read options sessions session done (calls ∷ rest) text script at all few small others number =
    let tail = replicate (length rest) [] in
    let count = sum_by-cons length calls rest in
    let bytes = sum_by-cons (sum_by payload_length) calls rest in
    ap (λ (t : List ℕ). script_from number (reads.Sessions (script_with options sessions (done ++ [] ∷ tail))) (lines_of t)) (append_assoc (printed_calls session calls) (printed_sessions (session + 1) rest) text)
    ∙ session_read options sessions session done tail [] calls (printed_sessions (session + 1) rest ++ text) script at all.0
    (omega (arith, count, no_counts (length rest), few))
    (omega (arith, bytes, no_payloads (length rest), small))
    (λ n.
    ap (λ (state : List (List Call)). script_from n (reads.Sessions (script_with options sessions state)) (lines_of (printed_sessions (session + 1) rest ++ text))) (sym (append_assoc done (calls ∷ []) tail))
    ∙ sessions_read options sessions (session + 1) (done ++ calls ∷ []) rest text script
    (omega (arith, length-append done (calls ∷ [])))
    all.1
    (omega (arith, sum_by-append length done (calls ∷ []), sum_by-cons length calls [], count, few))
    (omega (arith, sum_by-append (sum_by payload_length) done (calls ∷ []), sum_by-cons (sum_by payload_length) calls [], bytes, small))
    (λ m. ap (λ (state : List (List Call)). script_from m (reads.Sessions (script_with options sessions state)) (lines_of text)) (append_assoc done (calls ∷ []) rest) ∙ others m)
    n)
    number
