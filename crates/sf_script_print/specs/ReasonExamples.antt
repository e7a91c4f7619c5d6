-- Lines behind other lines, for the examples of reasons (our own).
use Rattle.std.specs.Prelude.{ℕ, true, false, List, [], ◌∷◌, fold, Option, codes}
use Rattle.sf_types.specs.declared.call.Call.{Call}
use Rattle.sf_types.specs.declared.options.Options.{Options}
use Rattle.sf_script.specs.declared.fault.Reason.{Reason}
use Rattle.sf_script.specs.declared.reading.Reading.{Reading}
use Rattle.sf_script.specs.declared.reading.Reading.TheVariants as reads
use Rattle.sf_script.specs.Parts.{ScriptParts}
use Rattle.sf_script.specs.Reasons.{reason_of, after_line}

-- What was read where these lines stand before.
abbrev pub reading_of : List (List ℕ) → Reading
reading_of before = fold after_line reads.Nothing before

-- Why a line is refused that stands behind these lines. A line feed ends it.
abbrev pub reason_behind : List (List ℕ) → List ℕ → Option Reason
reason_behind before text = reason_of (reading_of before) (record { text = text; ended = true })

-- Why a line is refused that stands behind these lines, where no line feed ends it.
abbrev pub unended_reason : List (List ℕ) → List ℕ → Option Reason
unended_reason before text = reason_of (reading_of before) (record { text = text; ended = false })

-- Why a line is refused that stands behind the lines of a script. A line feed ends it.
abbrev pub reason_after : ScriptParts → List ℕ → Option Reason
reason_after script text = reason_of (reads.Sessions script) (record { text = text; ended = true })

-- The header, and the header with one option behind it.
abbrev pub header : List (List ℕ)
header = codes "securefiles 1" ∷ []

abbrev pub header_and : List ℕ → List (List ℕ)
header_and option = codes "securefiles 1" ∷ option ∷ []

-- The lines before the calls of two sessions, and such lines with a schedule line behind them.
abbrev pub two_sessions : List (List ℕ)
two_sessions = codes "securefiles 1" ∷ codes "sessions 2" ∷ []

abbrev pub scheduled : List (List ℕ)
scheduled = codes "securefiles 1" ∷ codes "sessions 2" ∷ codes "schedule 1 2" ∷ []

-- A script of one session, without a schedule.
abbrev pub one_session : Options → List (List Call) → ScriptParts
one_session options calls = record { options = options; sessions = 1; calls = calls; turns = [] }
