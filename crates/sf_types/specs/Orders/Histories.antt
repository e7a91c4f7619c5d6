-- Which entries are legal, what they do, the runs of histories, and whole orders (our own).
use Rattle.std.specs.Prelude.{◌≡◌, ℕ, ◌==◌, Bool, true, false, IsTrue, List, [], ◌∷◌, ◌++◌, map, filter_map, length, Option, Some, None, option_map, if◌then◌else◌}
use Rattle.std.specs.List.{list_any, range_with_len}
use Rattle.sf_types.specs.declared.call.Call.{Call}
use Rattle.sf_types.specs.declared.call.Call.TheVariants as call
use Rattle.sf_types.specs.declared.history.Entry.{Entry}
use Rattle.sf_types.specs.declared.history.Kind.{Kind}
use Rattle.sf_types.specs.declared.history.Kind.TheVariants as kind
use Rattle.sf_types.specs.declared.history.Token.{Token}
use Rattle.sf_types.specs.declared.options.Options.{Options}
use Rattle.sf_types.specs.declared.reply.Reply.{Reply}
use Rattle.sf_types.specs.Table.Parts.{Promise, Table, opening_table}
use Rattle.sf_types.specs.Table.Sessions.{has_session, session_of}
use Rattle.sf_types.specs.Space.Due.{is_due}
use Rattle.sf_types.specs.Calls.Steps.{step}
use Rattle.sf_types.specs.Space.Promises.{promise, cancel}
use Rattle.sf_types.specs.Space.Publications.{publish}

-- An entry of a session, by its kind and its call.
abbrev pub entry_of : ℕ → Kind → Call → Entry
entry_of s kind c = record { token = record { session = s; kind = kind }; call = c }

-- Calls of a session that end, as entries.
abbrev pub call_entries : ℕ → List Call → List Entry
call_entries s calls = map (entry_of s kind.Call) calls

-- While no promise of the session stands, a promise is legal where its call is due, and a call where it isn't due.
-- While one stands, only the call for which it stands and a cancel with that call are legal.
abbrev pub IsLegalBeside : Option Promise → Bool → Kind → Call → Type 0
IsLegalBeside None due kind.Call c = due ≡ false
IsLegalBeside None due kind.Promise c = due ≡ true
IsLegalBeside None due kind.Cancel c = ⊥
IsLegalBeside (Some p) due kind.Call c = c ≡ p.call
IsLegalBeside (Some p) due kind.Promise c = ⊥
IsLegalBeside (Some p) due kind.Cancel c = c ≡ p.call

-- No entry is legal after the session's End, and none whose number is no session of the table. `due` says whether the
-- call is due.
pub record IsLegalWhere (due : Bool) (t : Table) (s : ℕ) (k : Kind) (c : Call) : Type 0 where
  pub session : IsTrue (has_session t s)
  pub goes_on : (session_of t s).has_ended ≡ false
  pub standing : IsLegalBeside (session_of t s).promise due k c

-- An entry is legal in a table.
abbrev pub IsLegal : Table → ℕ → Kind → Call → Type 0
IsLegal t s k c = IsLegalWhere (is_due t s c) t s k c

-- A call for which a promise stands is published. Every other one flushes nothing.
abbrev pub call_effect : Option Promise → Table → ℕ → Call → Table × Reply
call_effect None t s c = step t s c
call_effect (Some p) t s c = publish t s c

-- The table and the reply of a call that ended.
abbrev pub with_reply : Table × Reply → Table × Option Reply
with_reply done = (done.0, Some done.1)

-- An entry's effect by its parts: the table after the entry, and the reply where it ends its call. A promise that is
-- granted and a cancel end none; a promise that is refused ends its call.
abbrev pub entry_effect : Table → ℕ → Kind → Call → Table × Option Reply
entry_effect t s kind.Call c = with_reply (call_effect (session_of t s).promise t s c)
entry_effect t s kind.Promise c = promise t s c
entry_effect t s kind.Cancel c = (cancel t s, None)

-- An entry's effect on a table, by its token and its call.
abbrev pub effect_of : Table → Entry → Table × Option Reply
effect_of t e = entry_effect t e.token.session e.token.kind e.call

-- The table after some entries, one after the other.
abbrev pub table_after : Table → List Entry → Table
table_after t [] = t
table_after t (e ∷ es) = table_after (effect_of t e).0 es

-- The replies of entries that follow one another, each with its session's number, and none where the entry ended no call.
abbrev pub replies_from : Table → List Entry → List (ℕ × Option Reply)
replies_from t [] = []
replies_from t (e ∷ es) = (e.token.session, (effect_of t e).1) ∷ replies_from (effect_of t e).0 es

-- A reply of an entry, where the entry is of this session.
abbrev pub reply_to : ℕ → ℕ × Option Reply → Option Reply
reply_to s (n, answer) = if n == s then answer else None

-- The replies to one session's calls, in order.
abbrev pub replies_to : ℕ → List (ℕ × Option Reply) → List Reply
replies_to s answers = filter_map (reply_to s) answers

-- The table at the end of a run: the entries of a history, applied from the opening table of a store on.
abbrev pub history_table : Options → ℕ → List Entry → Table
history_table options sessions history = table_after (opening_table options sessions) history

-- The replies to one session's calls in the run of a history.
abbrev pub history_replies : Options → ℕ → List Entry → ℕ → List Reply
history_replies options sessions history s = replies_to s (replies_from (opening_table options sessions) history)

-- Each entry is legal where it stands.
abbrev pub IsLegalHistory : Table → List Entry → Type 0
IsLegalHistory t [] = Unit {0}
IsLegalHistory t (e ∷ es) = IsLegal t e.token.session e.token.kind e.call × IsLegalHistory (effect_of t e).0 es

-- The call that an entry ended, with its session's number, or none.
abbrev pub call_ends_from : Table → List Entry → List (ℕ × Option Call)
call_ends_from t [] = []
call_ends_from t (e ∷ es) =
    (e.token.session, option_map (λ answer. e.call) (effect_of t e).1) ∷ call_ends_from (effect_of t e).0 es

-- A call that was ended, where it is this session's.
abbrev pub call_end_of : ℕ → ℕ × Option Call → Option Call
call_end_of s (n, ended) = if n == s then ended else None

-- The calls that each of so many sessions ended, in order.
abbrev pub ended_calls : ℕ → Table → List Entry → List (List Call)
ended_calls sessions t history =
    map (λ s. filter_map (call_end_of s) (call_ends_from t history)) (range_with_len 1 sessions)

-- The calls of a script, each session's End last.
abbrev pub with_ends : List (List Call) → List (List Call)
with_ends calls = map (λ own. own ++ call.End ∷ []) calls

-- Whether an entry is a cancel.
abbrev pub is_cancel : Kind → Bool
is_cancel kind.Call = false
is_cancel kind.Promise = false
is_cancel kind.Cancel = true

-- An order is whole for a script, given as its options and each session's calls, where it is the order of a history of
-- legal entries without a cancel, in which the calls that a session ended are its calls, in order, the End last.
pub record IsWhole (options : Options) (calls : List (List Call)) (order : List Token) : Type 0 where
  pub history : List Entry
  pub tokens : map (λ e. e.token) history ≡ order
  pub uncancelled : list_any (λ token. is_cancel token.kind) order ≡ false
  pub legal : IsLegalHistory (opening_table options (length calls)) history
  pub own : ended_calls (length calls) (opening_table options (length calls)) history ≡ with_ends calls
