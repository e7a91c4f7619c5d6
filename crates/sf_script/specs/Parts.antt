-- What a script is (our own).
use Rattle.std.specs.Prelude.{◌≡◌, ℕ, ◌≤◌, Bool, true, false, ◌&&◌, nat_le, List, length, IsTrue}
use Rattle.std.specs.List.{list_all, sum_by}
use Rattle.sf_types.specs.Limits.{IsInRange}
use Rattle.sf_types.specs.declared.options.Options.{Options}
use Rattle.sf_types.specs.declared.call.Call.{Call}
use Rattle.sf_types.specs.declared.call.Call.TheVariants as calls
use Rattle.sf_script_calls.specs.Calls.{payload_length}
use Rattle.sf_script.specs.declared.turn.Turn.{Turn}
use Rattle.sf_script.specs.declared.turn.Turn.TheVariants as turn_kinds
use Rattle.sf_types.specs.declared.limits.TheConstants.{STORE_SESSIONS}

-- The parts of a script: its options, the number of its sessions, the calls of each session without its End, and its
-- schedule.
pub record ScriptParts : Type 0 where
  pub options : Options
  pub sessions : ℕ
  pub calls : List (List Call)
  pub turns : List Turn

-- Whether a turn of a session names one of so many sessions.
abbrev pub names_session : ℕ → Turn → Bool
names_session sessions (turn_kinds.Session session) = nat_le 1 session && nat_le session sessions
names_session sessions _ = true

-- An End isn't written in a script.
abbrev pub is_no_end : Call → Bool
is_no_end calls.End = false
is_no_end _ = true

-- What holds of each script.
pub record IsScript (parts : ScriptParts) : Type 0 where
  pub options : IsInRange parts.options
  pub sessions_low : 1 ≤ parts.sessions
  pub sessions_high : parts.sessions ≤ STORE_SESSIONS
  pub one_list_each : length parts.calls ≡ parts.sessions
  pub no_end : IsTrue (list_all (list_all is_no_end) parts.calls)
  pub turns : IsTrue (list_all (names_session parts.sessions) parts.turns)

-- The number of calls of all sessions.
abbrev pub call_count : List (List Call) → ℕ
call_count = sum_by length

-- The number of payload bytes of all calls.
abbrev pub payload_bytes : List (List Call) → ℕ
payload_bytes = sum_by (sum_by payload_length)
