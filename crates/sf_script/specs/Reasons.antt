-- Why a line is refused, and what a right line adds to what was read before it: nothing, the header with the options so
-- far, or the sessions line with the script so far (our own).
use Rattle.std.specs.Prelude.{ℕ, ◌+◌, ◌-◌, Bool, false, not, ◌&&◌, ◌||◌, nat_le, nat_lt, List, [], ◌∷◌, ◌++◌, length, replicate, slice_index_or, slice_set, Option, Some, None, is_none, if◌then◌else◌, codes}
use Rattle.std.specs.List.{list_all}
use Rattle.std.specs.Option.{option_map_or}
use Rattle.sf_types.specs.declared.limits.TheConstants.{BUFFER_BYTES, STORE_SESSIONS}
use Rattle.sf_types.specs.Limits.{standard_options}
use Rattle.sf_types.specs.declared.call.Call.{Call}
use Rattle.sf_script.specs.declared.fault.Reason.{Reason}
use Rattle.sf_script.specs.declared.fault.Reason.TheVariants.{Bytes, Place, Session, Form, Limit}
use Rattle.sf_script.specs.declared.reading.Reading.{Reading}
use Rattle.sf_script.specs.declared.reading.Reading.TheVariants as reads
use Rattle.sf_script_calls.specs.Calls.{spelled_call, payload_length}
use Rattle.sf_script.specs.declared.limits.TheConstants.{SCRIPT_CALLS, SCRIPT_PAYLOAD_BYTES, SCRIPT_TURNS}
use Rattle.sf_script.specs.LineForms.{LineForm, HeaderLine, SetsOption, SessionsLine, CallLine, ScheduleLine, form_of}
use Rattle.sf_script.specs.Lines.{Line, is_line_byte}
use Rattle.sf_script_calls.specs.Numbers.{is_empty_list}
use Rattle.sf_types.specs.declared.options.Options.{Options}
use Rattle.sf_script.specs.OptionLines.{OptionParts, option_rank, is_option_in_range, with_option, rank_of}
use Rattle.sf_script.specs.declared.turn.Turn.{Turn}
use Rattle.sf_script.specs.declared.option_line.OptionLine.{OptionLine}
use Rattle.sf_script.specs.Parts.{ScriptParts, call_count, payload_bytes}
use Rattle.sf_script.specs.Schedules.{ends_with_colon, session_of, are_turns, schedule_words}
use Rattle.sf_script_calls.specs.Words.{first_word, is_word}

-- The line isn't ended, or holds a byte outside 0x20 to 0x7E.
unfoldable pub has_wrong_bytes : Line → Bool
has_wrong_bytes line = not line.ended || not (list_all is_line_byte line.text)

-- A schedule has begun where there are turns, since each schedule line has some.
abbrev pub has_schedule : ScriptParts → Bool
has_schedule parts = not (is_empty_list parts.turns)

-- The first word may not stand here. On line 1 only `securefiles` may. Until the sessions line an option's word may that
-- comes later in the order than all options before it, or `sessions`. After the sessions line a word may that ends with a
-- colon, or `schedule`, and after a schedule line `schedule` alone.
unfoldable pub is_misplaced : Reading → List ℕ → Bool
is_misplaced reads.Nothing text = not (is_word (codes "securefiles") (first_word text))
is_misplaced (reads.Options read) text =
    not (nat_lt read.rank (option_rank (first_word text)) || is_word (codes "sessions") (first_word text))
is_misplaced (reads.Sessions parts) text =
    not (is_word (codes "schedule") (first_word text) || not (has_schedule parts) && ends_with_colon (first_word text))

-- The first word of a call line names no session, or a word of a schedule line after the first is no turn.
unfoldable pub names_no_session : Reading → List ℕ → Bool
names_no_session (reads.Sessions parts) text =
    if is_word (codes "schedule") (first_word text)
    then not (are_turns parts.sessions (schedule_words text))
    else is_none (session_of parts.sessions (first_word text))
names_no_session _ text = false

-- The line has none of the forms that may stand here.
abbrev pub has_no_form : Reading → List ℕ → Bool
has_no_form reading text = is_none (form_of reading text)

-- A call's payload of so many bytes is too long, or with this call the script has too many calls or payload bytes.
abbrev pub passes_call_limit : ScriptParts → ℕ → Bool
passes_call_limit parts bytes =
    nat_lt BUFFER_BYTES bytes || nat_lt SCRIPT_CALLS (call_count parts.calls + 1)
    || nat_lt SCRIPT_PAYLOAD_BYTES (payload_bytes parts.calls + bytes)

-- With so many turns more the schedule has too many.
abbrev pub passes_turn_limit : ScriptParts → ℕ → Bool
passes_turn_limit parts count = nat_lt SCRIPT_TURNS (length parts.turns + count)

-- A form passes a limit: an option or the number of sessions is out of its range, or the calls, the payload bytes or
-- the turns are too many.
unfoldable pub form_passes_limit : Reading → LineForm → Bool
form_passes_limit reading HeaderLine = false
form_passes_limit reading (SetsOption option) = not (is_option_in_range option)
form_passes_limit reading (SessionsLine number) = not (nat_le 1 number && nat_le number STORE_SESSIONS)
form_passes_limit (reads.Sessions parts) (CallLine session form) = passes_call_limit parts (payload_length (spelled_call form))
form_passes_limit (reads.Sessions parts) (ScheduleLine turns) = passes_turn_limit parts (length turns)
form_passes_limit _ _ = false

-- The line passes a limit.
abbrev pub passes_limit : Reading → List ℕ → Bool
passes_limit reading text = option_map_or (form_passes_limit reading) (form_of reading text) false

-- The first reason of a table that holds.
abbrev pub first_reason : List (Bool × Reason) → Option Reason
first_reason [] = None
first_reason ((holds, reason) ∷ table) = if holds then Some reason else first_reason table

-- Why a line is refused after what was read before it: the first reason that holds.
abbrev pub reason_of : Reading → Line → Option Reason
reason_of reading line = first_reason (
    (has_wrong_bytes line, Bytes)
    ∷ (is_misplaced reading line.text, Place)
    ∷ (names_no_session reading line.text, Session)
    ∷ (has_no_form reading line.text, Form)
    ∷ (passes_limit reading line.text, Limit)
    ∷ [])

-- A script of these options and so many sessions, with no calls and no schedule.
abbrev pub new_script : Options → ℕ → ScriptParts
new_script options sessions = record { options = options; sessions = sessions; calls = replicate sessions []; turns = [] }

-- A script with one more call of a session, its last.
abbrev pub with_call : ScriptParts → ℕ → Call → ScriptParts
with_call parts session call = record parts { calls = slice_set parts.calls (session - 1) (slice_index_or parts.calls (session - 1) [] ++ call ∷ []) }

-- A script with more turns of its schedule, its last.
abbrev pub with_turns : ScriptParts → List Turn → ScriptParts
with_turns parts turns = record parts { turns = parts.turns ++ turns }

-- The standard options, before any is set.
abbrev pub no_options : OptionParts
no_options = record { options = standard_options; rank = 0 }

-- The options with one more set.
abbrev pub with_option_read : OptionParts → OptionLine → OptionParts
with_option_read read option = record { options = with_option read.options option; rank = rank_of option }

-- What a form adds to what was read before it.
abbrev pub after_form : Reading → LineForm → Reading
after_form reads.Nothing HeaderLine = reads.Options no_options
after_form (reads.Options read) (SetsOption option) = reads.Options (with_option_read read option)
after_form (reads.Options read) (SessionsLine number) = reads.Sessions (new_script read.options number)
after_form (reads.Sessions parts) (CallLine session form) = reads.Sessions (with_call parts session (spelled_call form))
after_form (reads.Sessions parts) (ScheduleLine turns) = reads.Sessions (with_turns parts turns)
after_form reading _ = reading

-- What a right line adds to what was read before it.
abbrev pub after_line : Reading → List ℕ → Reading
after_line reading text = option_map_or (after_form reading) (form_of reading text) reading
