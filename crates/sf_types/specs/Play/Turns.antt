-- The turns of a play, and the play of a script (our own).
use Rattle.std.specs.Prelude.{ℕ, zero, suc, ◌-◌, ◌*◌, ◌==◌, Bool, List, [], ◌∷◌, ◌++◌, length, map, sum_by, Option, Some, None, is_some, slice_set, slice_index_or, if◌then◌else◌}
use Rattle.std.specs.List.{list_all, list_any, range_with_len}
use Rattle.sf_types.specs.declared.limits.TheConstants.{RECLAIMED_BLOCKS}
use Rattle.sf_types.specs.declared.call.Call.{Call}
use Rattle.sf_types.specs.declared.history.Entry.{Entry}
use Rattle.sf_types.specs.declared.history.Kind.TheVariants as kind
use Rattle.sf_types.specs.declared.history.Token.{Token}
use Rattle.sf_types.specs.declared.options.Options.{Options}
use Rattle.sf_types.specs.declared.reply.Reply.{Reply}
use Rattle.sf_types.specs.Space.Placings.{Placed}
use Rattle.sf_types.specs.Table.Parts.{Promise, Table, opening_table}
use Rattle.sf_types.specs.Table.Sessions.{session_of}
use Rattle.sf_types.specs.Space.Due.{is_due}
use Rattle.sf_types.specs.Orders.Histories.{entry_of, call_entries, effect_of, table_after, with_ends}
use Rattle.sf_types.specs.Halves.Own.{Own, own_of, is_own_local, own_step}
use Rattle.sf_types.specs.Play.Blocks.{Space, all_free, collected_by, after_entries, after_publication, after_collection, after_reclaim, after_shrink}

-- A store between two turns: the entries so far with the table after them, and where blocks stand.
pub record Stage : Type 0 where
  pub history : List Entry
  pub table : Table
  pub space : Space

-- At first nothing has happened, and all blocks are free.
abbrev pub empty_stage : Options → ℕ → Stage
empty_stage options sessions = record {
  history = [];
  table = opening_table options sessions;
  space = all_free options.capacity sessions;
}

-- The one thing that a turn does for a call: its end, its promise, or the collection of so many blocks.
pub data Action : Type 0 where
  Ends : Action
  Promises : Action
  Collects : (blocks : ℕ) → Action

-- A call without a promise gets one where it is due, and ends where it isn't. A call with a promise ends once as many blocks
-- are collected as were promised. Before that they are collected.
abbrev pub action_where : Option Promise → Bool → ℕ → Action
action_where None due collected = if due then Promises else Ends
action_where (Some promise) due collected = if promise.blocks == collected then Ends else Collects promise.blocks

-- The action of session s for a call that isn't local.
abbrev pub action_of : Table → Space → ℕ → Call → Action
action_of t space s c = action_where (session_of t s).promise (is_due t s c) (length (collected_by space s))

-- The stage after entries of session s, which join the history. Where a promise of the session stands, they publish.
abbrev pub with_entries : Stage → ℕ → List Entry → Stage
with_entries x s entries =
    let after = table_after x.table entries in
    record {
      history = x.history ++ entries;
      table = after;
      space = if is_some (session_of x.table s).promise
          then after_publication x.table after s x.space
          else after_entries x.table after x.space;
    }

-- The stage after a turn of session s, which ends these local calls and then does an action for the call behind them.
abbrev pub stage_after : Stage → ℕ → List Call → Call → Action → Stage
stage_after x s locals c Ends = with_entries x s (call_entries s locals ++ entry_of s kind.Call c ∷ [])
stage_after x s locals c Promises = with_entries x s (call_entries s locals ++ entry_of s kind.Promise c ∷ [])
stage_after x s locals c (Collects n) = record x { space = after_collection s n x.space }

-- The reply to the call behind the local ones, where the action ends it.
abbrev pub action_reply : Stage → ℕ → List Call → Call → Action → Option Reply
action_reply x s locals c Ends = (effect_of (table_after x.table (call_entries s locals)) (entry_of s kind.Call c)).1
action_reply x s locals c Promises = (effect_of (table_after x.table (call_entries s locals)) (entry_of s kind.Promise c)).1
action_reply x s locals c (Collects n) = None

-- The action for the call behind these local ones.
abbrev pub action_at : Stage → ℕ → List Call → Call → Action
action_at x s locals c = action_of (table_after x.table (call_entries s locals)) x.space s c

-- The stage after a reclaim of so many parked blocks, or of all where there are fewer.
abbrev pub stage_after_reclaim : ℕ → Stage → Stage
stage_after_reclaim max x = record x { space = after_reclaim max x.space }

-- The stage after a shrink turn, which does nothing where a promise stands.
abbrev pub stage_after_shrink : Stage → Stage
stage_after_shrink x =
    if list_any (λ p. is_some p.promise) x.table.sessions then x
    else record x { space = after_shrink x.table.options.capacity x.space }

-- A store under play, and the calls that each session hasn't ended, its End last.
pub record Playing : Type 0 where
  pub stage : Stage
  pub rest : List (List Call)

-- At first no call has ended, and each session's calls end with its End.
abbrev pub start_of : Options → List (List Call) → Playing
start_of options calls = record { stage = empty_stage options (length calls); rest = with_ends calls }

-- A play at this stage in which session s has these calls left.
abbrev pub with_rest : Playing → ℕ → List Call → Stage → Playing
with_rest p s calls stage = record { stage = stage; rest = slice_set p.rest (s - 1) calls }

-- The play after a turn of session s, whose local calls so far and own part after them are given: it ends the session's local
-- calls up to the next call that isn't local, and then does that one's action. A turn of an ended session does nothing.
abbrev pub turn_from : Playing → ℕ → Own → List Call → List Call → Playing
turn_from p s own locals [] = p
turn_from p s own locals (c ∷ later) =
    if is_own_local p.stage.table.options.gather own c
    then turn_from p s (own_step own c) (locals ++ c ∷ []) later
    else let action = action_at p.stage s locals c in
    with_rest p s (if is_some (action_reply p.stage s locals c action) then later else c ∷ later) (stage_after p.stage s locals c action)

-- The play after a turn of session s.
abbrev pub session_turn : ℕ → Playing → Playing
session_turn s p = turn_from p s (own_of p.stage.table s) [] (slice_index_or p.rest (s - 1) [])

-- A turn: a session's, a reclaim or a shrink.
pub data Turn : Type 0 where
  OfSession : (session : ℕ) → Turn
  Reclaims : Turn
  Shrinks : Turn

-- The play after a turn.
abbrev pub after_turn : Turn → Playing → Playing
after_turn (OfSession s) p = session_turn s p
after_turn Reclaims p = record p { stage = stage_after_reclaim RECLAIMED_BLOCKS p.stage }
after_turn Shrinks p = record p { stage = stage_after_shrink p.stage }

-- The play after turns, one after the other.
abbrev pub after_turns : List Turn → Playing → Playing
after_turns [] p = p
after_turns (turn ∷ turns) p = after_turns turns (after_turn turn p)

-- A round: each session in order takes a turn, then one reclaim turn follows.
abbrev pub round : ℕ → List Turn
round sessions = map (λ s. OfSession s) (range_with_len 1 sessions) ++ Reclaims ∷ []

-- So many rounds.
abbrev pub rounds : ℕ → ℕ → List Turn
rounds sessions zero = []
rounds sessions (suc n) = round sessions ++ rounds sessions n

-- Whether all sessions have ended.
abbrev pub have_all_ended : Playing → Bool
have_all_ended p = list_all (λ x. x.has_ended) p.stage.table.sessions

-- The play of a script with its schedule and so many rounds behind it.
abbrev pub play_for : Options → List (List Call) → List Turn → ℕ → Playing
play_for options calls schedule n =
    after_turns (rounds (length calls) n) (after_turns schedule (start_of options calls))

-- A number of rounds after which all sessions have ended: a call takes three turns at most. A round after the end changes
-- neither the history nor the places.
abbrev pub enough_rounds : List (List Call) → ℕ
enough_rounds calls = 3 * sum_by length (with_ends calls)

-- The stage at the end of a play.
abbrev pub play_end : Options → List (List Call) → List Turn → Stage
play_end options calls schedule = (play_for options calls schedule (enough_rounds calls)).stage

-- The order of a play: the tokens of the entries that its turns put into the history.
abbrev pub play_order : Options → List (List Call) → List Turn → List Token
play_order options calls schedule = map (λ e. e.token) (play_end options calls schedule).history

-- The places at the end of a play.
abbrev pub play_places : Options → List (List Call) → List Turn → List Placed
play_places options calls schedule = (play_end options calls schedule).space.places
