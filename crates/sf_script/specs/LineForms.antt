-- The forms of lines (our own). Which form a line has depends on where it stands.
use Rattle.std.specs.Prelude.{ℕ, not, ◌&&◌, List, Option, Some, None, if◌then◌else◌, codes}
use Rattle.sf_script.specs.declared.turn.Turn.{Turn}
use Rattle.sf_script.specs.declared.reading.Reading.{Reading}
use Rattle.sf_script.specs.declared.reading.Reading.TheVariants as reads
use Rattle.sf_script_calls.specs.CallTable.{call_form}
use Rattle.sf_script_calls.specs.Calls.{CallForm}
use Rattle.sf_script_calls.specs.Reads.{◌>>=◌}
use Rattle.sf_script_calls.specs.Numbers.{is_empty_list, number_of}
use Rattle.sf_script.specs.declared.option_line.OptionLine.{OptionLine}
use Rattle.sf_script.specs.OptionLines.{option_of}
use Rattle.sf_script.specs.Schedules.{session_of, are_turns, turns_of, schedule_words}
use Rattle.sf_script_calls.specs.Words.{first_word, word_at, is_word}

-- What a line says: the header, an option, the number of sessions, a session's call, or turns of the schedule.
pub data LineForm : Type 0 where
  HeaderLine : LineForm
  SetsOption : OptionLine → LineForm
  SessionsLine : ℕ → LineForm
  CallLine : ℕ → CallForm → LineForm
  ScheduleLine : List Turn → LineForm

-- `securefiles 1`
unfoldable pub header_line : List ℕ → Option LineForm
header_line text = if is_word (codes "securefiles 1") text then Some HeaderLine else None

-- The number behind `sessions`.
abbrev pub sessions_line : List ℕ → Option LineForm
sessions_line text = do
  number ← number_of text
  Some (SessionsLine number)

-- `sessions N`, or an option's word and what it is set to
unfoldable pub option_line : List ℕ → Option LineForm
option_line text = do
  word ← word_at text
  if is_word (codes "sessions") word.0 then sessions_line word.1 else (do
    option ← option_of word.0 word.1
    Some (SetsOption option))

-- `S: ` and a call
unfoldable pub call_line : ℕ → List ℕ → Option LineForm
call_line sessions text = do
  word ← word_at text
  session ← session_of sessions word.0
  form ← call_form word.1
  Some (CallLine session form)

-- `schedule` and one or more turns
unfoldable pub schedule_line : ℕ → List ℕ → Option LineForm
schedule_line sessions text =
    let words = schedule_words text in
    if not (is_empty_list words) && are_turns sessions words then Some (ScheduleLine (turns_of sessions words)) else None

-- The form of a line. None where it has none.
abbrev pub form_of : Reading → List ℕ → Option LineForm
form_of reads.Nothing text = header_line text
form_of (reads.Options read) text = option_line text
form_of (reads.Sessions parts) text =
    if is_word (codes "schedule") (first_word text) then schedule_line parts.sessions text else call_line parts.sessions text
