-- What holds of the play of a script (our own).
use Rattle.std.specs.Prelude.{◌≡◌, ◌≢◌, ℕ, ◌-◌, ◌≤◌, Bool, true, false, not, IsTrue, List, [], ◌∷◌, ◌++◌, map, length, filter, filter_map, slice_index_or}
use Rattle.std.specs.List.{AllByRecursion, list_any}
use Rattle.std.specs.Option.{IfSome}
use Rattle.sf_types.specs.declared.call.Call.{Call}
use Rattle.sf_types.specs.declared.call.Call.TheVariants as call
use Rattle.sf_types.specs.declared.history.Entry.{Entry}
use Rattle.sf_types.specs.declared.options.Options.{Options}
use Rattle.sf_types.specs.Table.Parts.{Table, opening_table}
use Rattle.sf_types.specs.Table.Sessions.{has_session, session_of}
use Rattle.sf_types.specs.Orders.Histories.{call_ends_from, call_end_of, with_ends, is_cancel}
use Rattle.sf_types.specs.Play.Turns.{Playing, Turn, OfSession, Reclaims, Shrinks}
use Rattle.sf_laws.specs.Stages.{IsSoundStage}

-- No call of a script is an End, since each session's End is put behind its calls.
abbrev pub AreWithoutEnd : List (List Call) → Type 0
AreWithoutEnd calls = AllByRecursion (λ own. AllByRecursion (λ c. c ≢ call.End) own) calls

-- A turn of a session has its number, from 1 to the number of sessions.
abbrev pub IsTurnOf : ℕ → Turn → Type 0
IsTurnOf sessions (OfSession s) = (1 ≤ s) × (s ≤ sessions)
IsTurnOf sessions Reclaims = Unit {0}
IsTurnOf sessions Shrinks = Unit {0}

-- Turns of a store with so many sessions.
abbrev pub AreTurnsOf : ℕ → List Turn → Type 0
AreTurnsOf sessions turns = AllByRecursion (IsTurnOf sessions) turns

-- Whether no call is left.
abbrev pub is_done : List Call → Bool
is_done [] = true
is_done (c ∷ calls) = false

-- A call is the first of those that are left.
abbrev pub IsNextCall : Call → List Call → Type 0
IsNextCall c [] = ⊥
IsNextCall c (next ∷ later) = next ≡ c

-- The calls that session s ended in a history, from a table on, in order.
abbrev pub ended_by : ℕ → Table → List Entry → List Call
ended_by s t history = filter_map (call_end_of s) (call_ends_from t history)

-- The calls that session s has left.
abbrev pub calls_left : Playing → ℕ → List Call
calls_left p s = slice_index_or p.rest (s - 1) []

-- The calls of session s in a script, its End last.
abbrev pub script_calls : List (List Call) → ℕ → List Call
script_calls calls s = slice_index_or (with_ends calls) (s - 1) []

-- A play of a script is sound where its stage is, no entry is a cancel, and each session keeps to the script: the calls that it
-- ended and those that it has left are its calls, in order, the End last; a promise stands for the next one; and it has ended
-- exactly where it has no call left.
pub record IsSoundPlay (options : Options) (calls : List (List Call)) (p : Playing) : Type 0 where
  pub stage : IsSoundStage options (length calls) p.stage
  pub uncancelled : list_any (λ token. is_cancel token.kind) (map (λ e. e.token) p.stage.history) ≡ false
  pub lists : length p.rest ≡ length calls
  pub own : (s : ℕ) → IsTrue (has_session p.stage.table s) → ended_by s (opening_table options (length calls)) p.stage.history ++ calls_left p s ≡ script_calls calls s
  pub next : (s : ℕ) → IsTrue (has_session p.stage.table s) → IfSome (session_of p.stage.table s).promise (λ promise. IsNextCall promise.call (calls_left p s))
  pub ended : (s : ℕ) → IsTrue (has_session p.stage.table s) → (session_of p.stage.table s).has_ended ≡ is_done (calls_left p s)

-- Whether a turn is a shrink.
abbrev pub is_shrink : Turn → Bool
is_shrink (OfSession s) = false
is_shrink Reclaims = false
is_shrink Shrinks = true

-- Turns without the shrinks among them.
abbrev pub without_shrinks : List Turn → List Turn
without_shrinks turns = filter (λ turn. not (is_shrink turn)) turns
