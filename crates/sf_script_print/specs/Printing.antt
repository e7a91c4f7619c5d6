-- The text of a script (our own).
use Rattle.std.specs.Prelude.{ℕ, ◌+◌, Bool, true, false, ◌==◌, List, [], ◌∷◌, ◌++◌, map, if◌then◌else◌, codes}
use Rattle.std.specs.Fmt.{decimal}
use Rattle.std.specs.List.{flat_map}
use Rattle.sf_types.specs.declared.call.Call.{Call}
use Rattle.sf_types.specs.declared.options.Options.{Options}
use Rattle.sf_types.specs.Limits.{standard_options}
use Rattle.sf_script.specs.declared.turn.Turn.{Turn}
use Rattle.sf_script.specs.declared.turn.Turn.TheVariants as turn_kinds
use Rattle.sf_script.specs.Parts.{ScriptParts}
use Rattle.sf_script_print.specs.PrintedCalls.{spaced, printed_call}

-- A line of an option that is set to a number. It isn't printed where that is the default.
abbrev pub number_option : List ℕ → ℕ → ℕ → List ℕ
number_option word number standard = if number == standard then [] else word ++ 32 ∷ decimal number ++ 10 ∷ []

-- The line of `dedup`, which is printed where equal contents aren't shared.
abbrev pub dedup_option : Bool → List ℕ
dedup_option true = []
dedup_option false = codes "dedup off\n"

-- The line of `retention`.
abbrev pub retention_option : Options → List ℕ
retention_option options =
    if options.max then codes "retention max\n" else number_option (codes "retention") options.retention standard_options.retention

-- The lines of the options that differ from their defaults, in their order.
unfoldable pub printed_options : Options → List ℕ
printed_options options =
    number_option (codes "capacity") options.capacity standard_options.capacity
    ++ dedup_option options.dedup
    ++ retention_option options
    ++ number_option (codes "gather") options.gather standard_options.gather
    ++ number_option (codes "dispensers") options.dispensers standard_options.dispensers

-- The lines of the calls of a session.
abbrev pub printed_calls : ℕ → List Call → List ℕ
printed_calls session calls = flat_map (printed_call session) calls

-- The lines of the calls of this session and of those behind it.
abbrev pub printed_sessions : ℕ → List (List Call) → List ℕ
printed_sessions session [] = []
printed_sessions session (calls ∷ others) = printed_calls session calls ++ printed_sessions (session + 1) others

-- The word of a turn.
abbrev pub turn_word : Turn → List ℕ
turn_word (turn_kinds.Session session) = decimal session
turn_word turn_kinds.Reclaim = codes "r"
turn_word turn_kinds.Shrink = codes "shrink"

-- The schedule line, where there are turns.
unfoldable pub printed_turns : List Turn → List ℕ
printed_turns [] = []
printed_turns (turn ∷ turns) = codes "schedule" ++ spaced (map turn_word (turn ∷ turns)) ++ 10 ∷ []

-- The text of a script: the header, the options that differ from their defaults, the number of sessions, the calls of
-- session 1, then of session 2 and so on, and the schedule.
unfoldable pub printed : ScriptParts → List ℕ
printed script =
    codes "securefiles 1\n"
    ++ printed_options script.options
    ++ codes "sessions" ++ spaced (decimal script.sessions ∷ []) ++ 10 ∷ []
    ++ printed_sessions 1 script.calls
    ++ printed_turns script.turns
