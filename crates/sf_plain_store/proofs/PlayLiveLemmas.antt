-- A script under play: what each turn makes of it.
use Rattle.std.proofs.Common.{◌≡◌, ℕ, zero, suc, ◌+◌, ◌-◌, ◌<◌, true, false, List, [], ◌∷◌, length, get_or, Option, Some, None, Result, Ok, Err, refl, sym, ap, subst, ◌∙◌, arith, length-set}
use Rattle.std.specs.Prelude.{◌≢◌, ◌==◌, OnOk, slice_get, slice_set, slice_index_or}
use Rattle.std.specs.List.{AllByRecursion as Each, list_all}
use Rattle.std.specs.Option.{IfSome}
use Rattle.std.proofs.lemmas.Option.{slice_get_read, get_or_from_slice_get}
use Rattle.sf_types.specs.declared.call.Call.{Call}
use Rattle.sf_types.specs.declared.call.Call.TheVariants as call
use Rattle.sf_types.specs.declared.history.Entry.{Entry}
use Rattle.sf_types.specs.declared.limits.TheConstants.{RECLAIMED_BLOCKS}
use Rattle.sf_types.specs.declared.options.Options.{Options}
use Rattle.sf_types.specs.Table.Parts.{Table}
use Rattle.sf_types.specs.Table.Sessions.{session_of}
use Rattle.sf_types.specs.Orders.Histories.{history_table, history_replies}
use Rattle.sf_types.specs.Play.Turns.{Stage, stage_after_shrink, session_turn, OfSession, Reclaims, Shrinks, Turn, after_turn}
use Rattle.sf_types.proofs.BoolLemmas.{both_first, both_second}
use Rattle.sf_types.proofs.NumberLemmas.{same_number, not_same}
use Rattle.sf_laws.specs.Plays.{AreWithoutEnd, IsSoundPlay, IsTurnOf, calls_left, is_done}
use Rattle.sf_laws.proofs.PositionLemmas.{get_set, get_set_other}
use Rattle.sf_laws.proofs.PlayLemmas.{Plays, plays_sound, sound_plays, stepped, there, shrink_beside}
use Rattle.sf_script.specs.Parts.{ScriptParts, IsScript, is_no_end}
use Rattle.sf_plain_store.specs.declared.live_play.LivePlay.{LivePlay}
use Rattle.sf_plain_store.specs.declared.players.Player.{Player}
use Rattle.sf_plain_store.specs.Inside.Players.{HasTurned, IsPlayer, IsUnderPlay, left_of, playing_of, rests}
use Rattle.sf_plain_store.specs.Stores.{StoreView, stage_of, with_stage}
use Rattle.sf_plain_store.specs.Turns.{KeepsCores, store_after_reclaim}

-- no call of a script is an End
no_end : (c : Call) → is_no_end c ≡ true → c ≢ call.End
no_end c is same = let wrong : is_no_end call.End ≡ true = subst (λ (x : Call). is_no_end x ≡ true) same is in absurd cc

own_without : (own : List Call) → list_all is_no_end own ≡ true → Each (λ c. c ≢ call.End) own
own_without [] all = tt
own_without (c ∷ own) all = (no_end c (both_first (is_no_end c) (list_all is_no_end own) all), own_without own (both_second (is_no_end c) (list_all is_no_end own) all))

all_without : (calls : List (List Call)) → list_all (list_all is_no_end) calls ≡ true → AreWithoutEnd calls
all_without [] all = tt
all_without (own ∷ calls) all =
    (own_without own (both_first (list_all is_no_end own) (list_all (list_all is_no_end) calls) all), all_without calls (both_second (list_all is_no_end own) (list_all (list_all is_no_end) calls) all))

pub without_end : (script : ScriptParts) → IsScript script → AreWithoutEnd script.calls
without_end script is = all_without script.calls is.no_end

pub own_at : (calls : List (List Call)) (i : ℕ) → AreWithoutEnd calls → Each (λ c. c ≢ call.End) (slice_index_or calls i [])
own_at [] i all = tt
own_at (own ∷ calls) zero all = all.0
own_at (own ∷ calls) (suc i) all = own_at calls i all.1

-- the calls that each player has left
rests_at : (calls : List (List Call)) (players : List Player) (i : ℕ) (player : Player) → i < length calls → slice_get players i ≡ Some player → slice_index_or (rests calls players) i [] ≡ left_of (slice_index_or calls i []) player
rests_at [] players i player lt is = absurd (omega (arith, lt))
rests_at (own ∷ calls) [] i player lt is = absurd cc
rests_at (own ∷ calls) (x ∷ players) zero player lt is = let same : x ≡ player = cc in ap (left_of own) same
rests_at (own ∷ calls) (x ∷ players) (suc i) player lt is = rests_at calls players i player (omega (arith, lt)) is

rests_set : (calls : List (List Call)) (players : List Player) (i : ℕ) (player : Player) → length players ≡ length calls → rests calls (slice_set players i player) ≡ slice_set (rests calls players) i (left_of (slice_index_or calls i []) player)
rests_set [] players i player same = refl
rests_set (own ∷ calls) [] i player same = absurd (omega (arith, same))
rests_set (own ∷ calls) (x ∷ players) zero player same = refl
rests_set (own ∷ calls) (x ∷ players) (suc i) player same = ap (λ (rest : List (List Call)). left_of own x ∷ rest) (rests_set calls players i player (omega (arith, same)))

-- the play of a script under play
pub plays_of : (script : ScriptParts) (live : LivePlay) → IsUnderPlay script live → Plays script.options script.calls (playing_of script.calls live)
plays_of script live under = plays_sound script.options script.calls (playing_of script.calls live) (without_end script under.is_script) under.sound

player_at : (script : ScriptParts) (live : LivePlay) (i : ℕ) (player : Player) → IsUnderPlay script live → i < script.sessions → slice_get live.players.items i ≡ Some player → IsPlayer live.store (i + 1) (slice_index_or script.calls i []) player
player_at script live i player under lt is = subst (λ (o : Option Player). IfSome o (IsPlayer live.store (i + 1) (slice_index_or script.calls i []))) is (under.each i lt)

-- What a session's turn asks of its player.
pub record MayTurn (live : LivePlay) (player : Player) (own : List Call) : Type 0 where
  pub player_is : IsPlayer live.store player.core.session own player
  pub ended : player.core.own.part.has_ended ≡ is_done (left_of own player)
  pub without : Each (λ c. c ≢ call.End) own

back_one : (i : ℕ) → i + 1 - 1 ≡ i
back_one i = omega arith

left_at : (script : ScriptParts) (live : LivePlay) (i : ℕ) (player : Player) → IsUnderPlay script live → i < script.sessions → slice_get live.players.items i ≡ Some player → calls_left (playing_of script.calls live) (i + 1) ≡ left_of (slice_index_or script.calls i []) player
left_at script live i player under lt is =
    let lists = under.is_script.one_list_each in
    ap (λ n. slice_index_or (rests script.calls live.players.items) n []) (back_one i) ∙ rests_at script.calls live.players.items i player (omega (arith, lists, lt)) is

pub may_turn : (script : ScriptParts) (live : LivePlay) (i : ℕ) (player : Player) → IsUnderPlay script live → i < script.sessions → slice_get live.players.items i ≡ Some player → MayTurn live player (slice_index_or script.calls i [])
may_turn script live i player under lt is =
    let own = slice_index_or script.calls i [] in
    let p = playing_of script.calls live in
    let lists = under.is_script.one_list_each in
    let mine = player_at script live i player under lt is in
    let plays = plays_of script live under in
    let has = there script.options (length script.calls) p.stage (i + 1) plays.stage (omega arith) (omega (arith, lists, lt)) in
    record {
      player_is = subst (λ s. IsPlayer live.store s own player) (sym mine.session) mine;
      ended = sym mine.home.home.home.goes_on ∙ ap (λ s. (session_of p.stage.table s).has_ended) mine.session ∙ under.sound.ended (i + 1) has ∙ ap is_done (left_at script live i player under lt is);
      without = own_at script.calls i (without_end script under.is_script);
    }

-- The session behind the first i ones, by its player and its calls.
pub record IsSession (script : ScriptParts) (live : LivePlay) (i : ℕ) (player : Player) (own : List Call) : Type 0 where
  pub player_at : slice_get live.players.items i ≡ Some player
  pub own_is : own ≡ slice_index_or script.calls i []

pub session_at : (script : ScriptParts) (live : LivePlay) (i : ℕ) (player : Player) {calls : List (List Call)} {item own : List Call} → IsUnderPlay script live → i < script.sessions → player ≡ get_or live.players.items i player → calls ≡ script.calls → item ≡ get_or calls i item → own ≡ item
    → IsSession script live i player own
session_at script live i player {calls} {item} {own} under lt player_is calls_are item_is own_is =
    let lists = under.is_script.one_list_each in
    let count = under.count in
    let here : slice_get script.calls i ≡ Some item = slice_get_read script.calls (length script.calls) i item refl (omega (arith, lists, lt)) (item_is ∙ ap (λ (css : List (List Call)). get_or css i item) calls_are) in
    record {
      player_at = slice_get_read live.players.items (length live.players.items) i player refl (omega (arith, count, lt)) player_is;
      own_is = own_is ∙ sym (get_or_from_slice_get script.calls i item [] here);
    }

-- What a session's turn asks, of its calls as they were read.
pub may_turn_at : (script : ScriptParts) (live : LivePlay) (i : ℕ) (player : Player) (own : List Call) → IsUnderPlay script live → i < script.sessions → IsSession script live i player own → MayTurn live player own
may_turn_at script live i player own under lt session = subst (MayTurn live player) (sym session.own_is) (may_turn script live i player under lt session.player_at)

-- What a turn makes of a script under play.
pub record IsMoved (script : ScriptParts) (turn : Turn) (before after : LivePlay) : Type 0 where
  pub under : IsUnderPlay script after
  pub playing : playing_of script.calls after ≡ after_turn turn (playing_of script.calls before)

sound_after : (script : ScriptParts) (live : LivePlay) (turn : Turn) → IsUnderPlay script live → IsTurnOf (length script.calls) turn → IsSoundPlay script.options script.calls (after_turn turn (playing_of script.calls live))
sound_after script live turn under of =
    let p = playing_of script.calls live in
    sound_plays script.options script.calls (after_turn turn p) (stepped script.options script.calls p turn (plays_of script live under) of).plays

-- a session's turn
pub session_moved : (script : ScriptParts) (live after : LivePlay) (i : ℕ) (player new : Player) → IsUnderPlay script live → i < script.sessions → slice_get live.players.items i ≡ Some player
    → HasTurned (slice_index_or script.calls i []) live.store after.store player new → after.players.items ≡ slice_set live.players.items i new → IsMoved script (OfSession (i + 1)) live after
session_moved script live after i player new under lt is turned players =
    let own = slice_index_or script.calls i [] in
    let calls = script.calls in
    let p = playing_of calls live in
    let lists = under.is_script.one_list_each in
    let count = under.count in
    let mine = player_at script live i player under lt is in
    let left = left_at script live i player under lt is in
    let s = player.core.session in
    let at : s - 1 ≡ i = ap (λ n. n - 1) mine.session ∙ back_one i in
    let taken = turned.turn p refl (ap (calls_left p) mine.session ∙ left) in
    let rest : rests calls after.players.items ≡ slice_set p.rest (s - 1) (left_of own new) =
    ap (rests calls) players ∙ rests_set calls live.players.items i new (count ∙ sym lists) ∙ ap (λ n. slice_set p.rest n (left_of own new)) (sym at) in
    let playing : playing_of calls after ≡ session_turn (i + 1) p =
    ap (λ (xs : List (List Call)). record { stage = stage_of after.store; rest = xs }) rest ∙ sym taken ∙ ap (λ n. session_turn n p) mine.session in
    record {
      under = record {
        is_script = under.is_script;
        options = turned.options ∙ under.options;
        sessions = turned.sessions ∙ under.sessions;
        count = ap (λ (xs : List Player). length xs) players ∙ length-set live.players.items i new ∙ count;
        each = λ j below. subst (λ (xs : List Player). IfSome (slice_get xs j) (IsPlayer after.store (j + 1) (slice_index_or calls j []))) (sym players)
            (elim (j == i) as (λ b. (j == i) ≡ b → IfSome (slice_get (slice_set live.players.items i new) j) (IsPlayer after.store (j + 1) (slice_index_or calls j []))) [
              | true ↦ λ same. subst (λ n. IfSome (slice_get (slice_set live.players.items i new) n) (IsPlayer after.store (n + 1) (slice_index_or calls n []))) (sym (same_number j i same))
                  (subst (λ (o : Option Player). IfSome o (IsPlayer after.store (i + 1) own)) (sym (get_set live.players.items i new (omega (arith, count, lt))))
                  (subst (λ n. IsPlayer after.store n own new) mine.session turned.player))
              | false ↦ λ not. other j (not_same j i not) mine.session turned (subst (λ (o : Option Player). IfSome o (IsPlayer live.store (j + 1) (slice_index_or calls j []))) (sym (get_set_other live.players.items i j new (λ same. not_same j i not (sym same)))) (under.each j below))
            ] refl);
        sound = subst (IsSoundPlay script.options calls) (sym playing) (sound_after script live (OfSession (i + 1)) under (omega arith, omega (arith, lists, lt)));
      };
      playing = playing;
    }
  where
    still : (j : ℕ) (x : Player) (theirs : List Call) → (j ≡ i → ⊥) → player.core.session ≡ i + 1 → HasTurned (slice_index_or script.calls i []) live.store after.store player new → IsPlayer live.store (j + 1) theirs x → IsPlayer after.store (j + 1) theirs x
    still j x theirs apart mine turned old =
        let differ : (j + 1 ≡ player.core.session → ⊥) = λ same. let equal : j + 1 ≡ i + 1 = same ∙ mine in apart (omega (arith, equal)) in
        record {
          session = old.session;
          home = turned.others x.core (λ same. differ (sym old.session ∙ same)) old.home;
          pending = old.pending;
          replies = old.replies ∙ sym (turned.replies (j + 1) differ);
          next = old.next;
        }

    other : (j : ℕ) → (j ≡ i → ⊥) → player.core.session ≡ i + 1 → HasTurned (slice_index_or script.calls i []) live.store after.store player new → IfSome (slice_get (slice_set live.players.items i new) j) (IsPlayer live.store (j + 1) (slice_index_or script.calls j []))
        → IfSome (slice_get (slice_set live.players.items i new) j) (IsPlayer after.store (j + 1) (slice_index_or script.calls j []))
    other j apart mine turned old = go (slice_get (slice_set live.players.items i new) j) old
      where
        go : (o : Option Player) → IfSome o (IsPlayer live.store (j + 1) (slice_index_or script.calls j [])) → IfSome o (IsPlayer after.store (j + 1) (slice_index_or script.calls j []))
        go None is = tt
        go (Some x) is = still j x (slice_index_or script.calls j []) apart mine turned is

-- a turn that puts no entry into the history
kept_player : (before after : StoreView) (s : ℕ) (own : List Call) (o : Option Player) → after.options ≡ before.options → after.sessions ≡ before.sessions → after.history ≡ before.history → KeepsCores before after → IfSome o (IsPlayer before s own) → IfSome o (IsPlayer after s own)
kept_player before after s own None options sessions history keeps is = tt
kept_player before after s own (Some x) options sessions history keeps is = record {
  session = is.session;
  home = keeps x.core is.home;
  pending = is.pending;
  replies = is.replies
      ∙ ap (λ (o : Options). history_replies o before.sessions before.history s) (sym options)
      ∙ ap (λ n. history_replies after.options n before.history s) (sym sessions)
      ∙ ap (λ (es : List Entry). history_replies after.options after.sessions es s) (sym history);
  next = is.next;
}

beside_moved : (script : ScriptParts) (turn : Turn) (live after : LivePlay) → IsUnderPlay script live → IsTurnOf (length script.calls) turn → after.store.options ≡ live.store.options → after.store.sessions ≡ live.store.sessions → after.store.history ≡ live.store.history → KeepsCores live.store after.store → after.players.items ≡ live.players.items
    → playing_of script.calls after ≡ after_turn turn (playing_of script.calls live) → IsUnderPlay script after
beside_moved script turn live after under of options sessions history keeps players playing = record {
  is_script = under.is_script;
  options = options ∙ under.options;
  sessions = sessions ∙ under.sessions;
  count = ap (λ (xs : List Player). length xs) players ∙ under.count;
  each = λ i lt. kept_player live.store after.store (i + 1) (slice_index_or script.calls i []) (slice_get after.players.items i) options sessions history keeps
      (subst (λ (xs : List Player). IfSome (slice_get xs i) (IsPlayer live.store (i + 1) (slice_index_or script.calls i []))) (sym players) (under.each i lt));
  sound = subst (IsSoundPlay script.options script.calls) (sym playing) (sound_after script live turn under of);
}

same_rest : (calls : List (List Call)) (live after : LivePlay) (x : Stage) → stage_of after.store ≡ x → after.players.items ≡ live.players.items → playing_of calls after ≡ record (playing_of calls live) { stage = x }
same_rest calls live after x stage players = ap (λ (y : Stage). record { stage = y; rest = rests calls after.players.items }) stage ∙ ap (λ (xs : List Player). record { stage = x; rest = rests calls xs }) players

pub reclaim_playing : (calls : List (List Call)) (live after : LivePlay) → after.store ≡ store_after_reclaim RECLAIMED_BLOCKS live.store → after.players.items ≡ live.players.items → playing_of calls after ≡ after_turn Reclaims (playing_of calls live)
reclaim_playing calls live after store players = same_rest calls live after _ (ap stage_of store) players

pub reclaim_moved : (script : ScriptParts) (live after : LivePlay) → IsUnderPlay script live → after.store ≡ store_after_reclaim RECLAIMED_BLOCKS live.store → KeepsCores live.store after.store → after.players.items ≡ live.players.items → IsUnderPlay script after
reclaim_moved script live after under store keeps players =
    beside_moved script Reclaims live after under tt (ap (λ (v : StoreView). v.options) store) (ap (λ (v : StoreView). v.sessions) store) (ap (λ (v : StoreView). v.history) store) keeps players (reclaim_playing script.calls live after store players)

pub shrink_playing : (calls : List (List Call)) (live after : LivePlay) → after.store ≡ with_stage live.store (stage_after_shrink (stage_of live.store)) → after.players.items ≡ live.players.items → playing_of calls after ≡ after_turn Shrinks (playing_of calls live)
shrink_playing calls live after store players =
    let y = stage_after_shrink (stage_of live.store) in
    let beside = shrink_beside (stage_of live.store) in
    let table : y.table ≡ history_table live.store.options live.store.sessions y.history = beside.table ∙ ap (history_table live.store.options live.store.sessions) (sym beside.history) in
    let back : stage_of (with_stage live.store y) ≡ y = ap (λ (t : Table). record { history = y.history; table = t; space = y.space }) (sym table) in
    same_rest calls live after y (ap stage_of store ∙ back) players

pub shrink_moved : (script : ScriptParts) (live after : LivePlay) → IsUnderPlay script live → after.store ≡ with_stage live.store (stage_after_shrink (stage_of live.store)) → KeepsCores live.store after.store → after.players.items ≡ live.players.items → IsUnderPlay script after
shrink_moved script live after under store keeps players =
    beside_moved script Shrinks live after under tt (ap (λ (v : StoreView). v.options) store) (ap (λ (v : StoreView). v.sessions) store)
    (ap (λ (v : StoreView). v.history) store ∙ (shrink_beside (stage_of live.store)).history) keeps players (shrink_playing script.calls live after store players)

pub session_moved_by : {R E : Type 0} (result : Result R E) (script : ScriptParts) (live after : LivePlay) (i : ℕ) (player new : Player) (own : List Call) → IsUnderPlay script live → i < script.sessions → IsSession script live i player own
    → OnOk result (HasTurned own live.store after.store player new) → after.players.items ≡ slice_set live.players.items i new → OnOk result (IsMoved script (OfSession (i + 1)) live after)
session_moved_by (Ok x) script live after i player new own under lt session turned players =
    session_moved script live after i player new under lt session.player_at (subst (λ (cs : List Call). HasTurned cs live.store after.store player new) session.own_is turned) players
session_moved_by (Err e) script live after i player new own under lt session turned players = tt

pub moved_under : {R E : Type 0} (result : Result R E) (script : ScriptParts) (turn : Turn) (live after : LivePlay) → OnOk result (IsMoved script turn live after) → OnOk result (IsUnderPlay script after)
moved_under (Ok x) script turn live after moved = moved.under
moved_under (Err e) script turn live after moved = tt

pub moved_playing : {R E : Type 0} (result : Result R E) (script : ScriptParts) (turn : Turn) (live after : LivePlay) → OnOk result (IsMoved script turn live after) → OnOk result (playing_of script.calls after ≡ after_turn turn (playing_of script.calls live))
moved_playing (Ok x) script turn live after moved = moved.playing
moved_playing (Err e) script turn live after moved = tt
