-- Scripts under play: each session with its core and its replies, and the play that these are (our own).
use Rattle.std.specs.Prelude.{◌≡◌, ◌≢◌, ℕ, ◌+◌, ◌<◌, List, [], ◌∷◌, ◌++◌, length, drop, slice_get, slice_index_or}
use Rattle.std.specs.Option.{IfSome}
use Rattle.sf_types.specs.declared.call.Call.{Call}
use Rattle.sf_types.specs.declared.call.Call.TheVariants as call
use Rattle.sf_types.specs.Orders.Histories.{history_replies}
use Rattle.sf_types.specs.Play.Turns.{Playing, with_rest, session_turn}
use Rattle.sf_laws.specs.Plays.{IsNextCall, IsSoundPlay, calls_left}
use Rattle.sf_session.specs.Cores.{new_core}
use Rattle.sf_script.specs.Parts.{ScriptParts, IsScript}
use Rattle.sf_plain_store.specs.declared.players.Player.{Player}
use Rattle.sf_plain_store.specs.declared.live_play.LivePlay.{LivePlay}
use Rattle.sf_plain_store.specs.Stores.{StoreView, IsAtHomeIn, stage_of}
use Rattle.sf_plain_store.specs.Turns.{KeepsOthers}

-- The call behind the first so many of a session's calls in a script: an End behind them all.
abbrev pub call_at : List Call → ℕ → Call
call_at own n = slice_index_or own n call.End

-- The calls that a player has left, of its session's calls in a script: those behind the ones that were replied, the End last.
abbrev pub left_of : List Call → Player → List Call
left_of own player = drop (length player.replies) (own ++ call.End ∷ [])

-- A player that has made no call.
abbrev pub new_player : ℕ → ℕ → Player
new_player gather s = record { core = new_core s gather; replies = [] }

-- The player of session s between two turns: its core is at home in the store with no call pending, it has the replies that the
-- history brought to the session, and a call that stands is the next one of the script.
pub record IsPlayer (store : StoreView) (s : ℕ) (own : List Call) (player : Player) : Type 0 where
  pub session : player.core.session ≡ s
  pub home : IsAtHomeIn store player.core
  pub pending : player.core.pending ≡ []
  pub replies : player.replies ≡ history_replies store.options store.sessions store.history s
  pub next : IfSome player.core.standing (λ c. IsNextCall c (left_of own player))

-- A player took its session's turn: the store and the calls that are left are those of the rule's turn, in every play at the
-- store's stage in which the session has the player's calls left. It is its session's player still, and other sessions' cores are
-- at home with the same replies.
pub record HasTurned (own : List Call) (before after : StoreView) (first last : Player) : Type 0 where
  pub options : after.options ≡ before.options
  pub sessions : after.sessions ≡ before.sessions
  pub player : IsPlayer after first.core.session own last
  pub turn : (p : Playing) → p.stage ≡ stage_of before → calls_left p first.core.session ≡ left_of own first
      → session_turn first.core.session p ≡ with_rest p first.core.session (left_of own last) (stage_of after)
  pub others : KeepsOthers before after first.core.session
  pub replies : (r : ℕ) → r ≢ first.core.session → history_replies after.options after.sessions after.history r ≡ history_replies before.options before.sessions before.history r

-- The calls that each player has left, of its session's calls in a script.
abbrev pub rests : List (List Call) → List Player → List (List Call)
rests [] players = []
rests (own ∷ calls) [] = []
rests (own ∷ calls) (player ∷ players) = left_of own player ∷ rests calls players

-- The play that a script under play is.
abbrev pub playing_of : List (List Call) → LivePlay → Playing
playing_of calls live = record { stage = stage_of live.store; rest = rests calls live.players.items }

-- A script is under play: its store has the script's options and sessions, there is a player for each session, and the play is
-- sound.
pub record IsUnderPlay (script : ScriptParts) (live : LivePlay) : Type 0 where
  pub is_script : IsScript script
  pub options : live.store.options ≡ script.options
  pub sessions : live.store.sessions ≡ script.sessions
  pub count : length live.players.items ≡ script.sessions
  pub each : (i : ℕ) → i < script.sessions → IfSome (slice_get live.players.items i) (IsPlayer live.store (i + 1) (slice_index_or script.calls i []))
  pub sound : IsSoundPlay script.options script.calls (playing_of script.calls live)
