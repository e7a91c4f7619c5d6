-- From what was read to what is read with one more line (our own).
use Rattle.std.specs.Prelude.{◌≡◌, ℕ, ◌≤◌, IsTrue, false, List, [], ◌∷◌, length, Option, Some, None, Result, Ok, Err, if◌then◌else◌}
use Rattle.std.specs.List.{list_all}
use Rattle.sf_types.specs.declared.limits.TheConstants.{STORE_SESSIONS}
use Rattle.sf_script_calls.specs.Calls.{CallForm, spelled_call, payload_length}
use Rattle.sf_script.specs.declared.fault.Reason.{Reason}
use Rattle.sf_script.specs.declared.fault.Reason.TheVariants.{Bytes, Place, Session, Limit}
use Rattle.sf_script.specs.declared.reading.Reading.{Reading}
use Rattle.sf_script.specs.declared.reading.Reading.TheVariants as reads
use Rattle.sf_script.specs.LineForms.{LineForm, SetsOption, SessionsLine, CallLine, ScheduleLine}
use Rattle.sf_script.specs.Lines.{Line}
use Rattle.sf_script.specs.declared.turn.Turn.{Turn}
use Rattle.sf_script.specs.OptionLines.{is_option_in_range}
use Rattle.sf_script.specs.Parts.{ScriptParts, is_no_end, names_session}
use Rattle.sf_script.specs.Reasons.{has_wrong_bytes, is_misplaced, names_no_session, form_passes_limit, first_reason, reason_of, passes_call_limit, passes_turn_limit, after_form, after_line}

-- The reason where there is one, else what was read.
abbrev pub reason_or : Option Reason → Reading → Result Reading Reason
reason_or (Some reason) reading = Err reason
reason_or None reading = Ok reading

-- What a line makes of what was read before it: why it is refused, or what was read with it.
unfoldable pub next_reading : Reading → Line → Result Reading Reason
next_reading reading line = reason_or (reason_of reading line) (after_line reading line.text)

-- Why a line is refused before its form is looked at.
unfoldable pub early_reason : Reading → Line → Option Reason
early_reason reading line = first_reason (
    (has_wrong_bytes line, Bytes)
    ∷ (is_misplaced reading line.text, Place)
    ∷ (names_no_session reading line.text, Session)
    ∷ [])

-- Why a line of a form is refused.
unfoldable pub form_reason : Reading → LineForm → Option Reason
form_reason reading form = if form_passes_limit reading form then Some Limit else None

-- A call that may follow a script: it is one of a session that there is, no End, and within the limits.
pub record CanHaveCall (parts : ScriptParts) (session : ℕ) (form : CallForm) : Type 0 where
  pub low : 1 ≤ session
  pub high : session ≤ parts.sessions
  pub no_end : IsTrue (is_no_end (spelled_call form))
  pub room : passes_call_limit parts (payload_length (spelled_call form)) ≡ false

-- Turns that may follow a script: each names a session that there is, and they are within the limit.
pub record CanHaveTurns (parts : ScriptParts) (turns : List Turn) : Type 0 where
  pub named : IsTrue (list_all (names_session parts.sessions) turns)
  pub room : passes_turn_limit parts (length turns) ≡ false

-- A form that may follow what was read before it: what it sets is in its range, or the call or the turns may
-- follow.
abbrev pub CanFollow : Reading → LineForm → Type 0
CanFollow reading (SetsOption option) = IsTrue (is_option_in_range option)
CanFollow reading (SessionsLine number) = (1 ≤ number) × (number ≤ STORE_SESSIONS)
CanFollow (reads.Sessions parts) (CallLine session form) = CanHaveCall parts session form
CanFollow (reads.Sessions parts) (ScheduleLine turns) = CanHaveTurns parts turns
CanFollow _ _ = Unit {0}

-- What a line's form makes of what was read before it.
unfoldable pub reading_with : Reading → LineForm → Result Reading Reason
reading_with reading form = reason_or (form_reason reading form) (after_form reading form)

-- A form of a line behind the sessions line: its session is one that there is, and so are those of its turns. Its call is no
-- End.
abbrev pub IsOfSessions : ℕ → LineForm → Type 0
IsOfSessions sessions (CallLine session form) = (1 ≤ session) × (session ≤ sessions) × IsTrue (is_no_end (spelled_call form))
IsOfSessions sessions (ScheduleLine turns) = IsTrue (list_all (names_session sessions) turns)
IsOfSessions sessions _ = Unit {0}

-- A form that a line may have after what was read before it.
abbrev pub IsFormAfter : Reading → LineForm → Type 0
IsFormAfter (reads.Sessions parts) form = IsOfSessions parts.sessions form
IsFormAfter _ _ = Unit {0}
