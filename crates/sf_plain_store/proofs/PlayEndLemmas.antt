-- A script under play before its first turn, through its schedule and its rounds, and at its end.
use Rattle.std.proofs.Common.{◌≡◌, ℕ, zero, suc, ◌+◌, ◌-◌, ◌≤◌, ◌<◌, true, false, List, [], ◌∷◌, ◌++◌, length, map, drop, get_or, Option, Some, None, Result, Ok, Err, refl, sym, ap, subst, ◌∙◌, arith}
use Rattle.std.specs.Prelude.{IfOk, OnOk, nat_le, slice_get, slice_index_or}
use Rattle.std.specs.List.{list_all, range_with_len}
use Rattle.std.specs.Option.{IfSome}
use Rattle.std.proofs.lemmas.List.{drop_more}
use Rattle.std.proofs.lemmas.List.FromFn.{length-map-range_with_len}
use Rattle.sf_types.specs.declared.call.Call.{Call}
use Rattle.sf_types.specs.declared.call.Call.TheVariants as call
use Rattle.sf_types.specs.declared.history.Entry.{Entry}
use Rattle.sf_types.specs.declared.history.Token.{Token}
use Rattle.sf_types.specs.declared.options.Options.{Options}
use Rattle.sf_types.specs.declared.played.Played.{Played}
use Rattle.sf_types.specs.declared.reply.Reply.{Reply}
use Rattle.sf_types.specs.Table.Parts.{Table}
use Rattle.sf_types.specs.Table.Versions.{commit_count}
use Rattle.sf_types.specs.Space.Placings.{Placed, all_blocks}
use Rattle.sf_types.specs.Space.Use.{free_of}
use Rattle.sf_types.specs.Orders.Histories.{history_replies, history_table, with_ends}
use Rattle.sf_types.specs.Orders.RowEnds.{row_ends_of}
use Rattle.sf_types.specs.Orders.Transcripts.{all_replies}
use Rattle.sf_types.specs.Play.Turns.{Stage, Playing, empty_stage, start_of, OfSession, Reclaims, after_turn, after_turns, round, rounds, have_all_ended, play_for}
use Rattle.sf_types.proofs.BoolLemmas.{both_first, both_second}
use Rattle.sf_types.proofs.NumberLemmas.{at_most}
use Rattle.sf_laws.specs.PlayTranscripts.{written_place, written_places}
use Rattle.sf_laws.specs.Plays.{IsSoundPlay, IsTurnOf, AreTurnsOf}
use Rattle.sf_laws.proofs.PlayLemmas.{Plays, start_plays, sound_plays}
use Rattle.sf_book.specs.Books.{BookView}
use Rattle.sf_session.specs.Cores.{new_core}
use Rattle.sf_script.specs.Parts.{ScriptParts, IsScript, names_session}
use Rattle.sf_script.specs.declared.turn.Turn.{Turn}
use Rattle.sf_script.specs.declared.turn.Turn.TheVariants as turn
use Rattle.sf_plain_store.specs.declared.live_play.LivePlay.{LivePlay}
use Rattle.sf_plain_store.specs.declared.players.Player.{Player}
use Rattle.sf_plain_store.specs.Inside.Players.{IsPlayer, IsUnderPlay, new_player, playing_of, rests}
use Rattle.sf_plain_store.specs.Plays.{IsBookOf, IsPlayed, end_of, schedule_of, turn_of}
use Rattle.sf_plain_store.specs.Stores.{IsAtHomeIn, stage_of}
use Rattle.sf_plain_store.proofs.PlayLiveLemmas.{without_end, plays_of}
use Rattle.sf_laws.proofs.RoundLemmas.{turns-append}
use Rattle.sf_plain_store.proofs.PlayRoundLemmas.{IsEndOf, all_turns_left, end_is, free_is, round_falls, rounds_more}

-- an item of a list that a function makes
get_made : {X : Type 0} (f : ℕ → X) (a n i : ℕ) → i < n → slice_get (map f (range_with_len a n)) i ≡ Some (f (i + a))
get_made f a zero i lt = absurd (omega (arith, lt))
get_made f a (suc n) zero lt = let same : a ≡ 0 + a = omega arith in ap (λ k. Some (f k)) same
get_made f a (suc n) (suc i) lt = let same : i + (a + 1) ≡ suc i + a = omega arith in get_made f (a + 1) n i (omega (arith, lt)) ∙ ap (λ k. Some (f k)) same

rests_new : (gather : ℕ) (calls : List (List Call)) (a : ℕ) → rests calls (map (new_player gather) (range_with_len a (length calls))) ≡ with_ends calls
rests_new gather [] a = refl
rests_new gather (own ∷ calls) a = ap (λ (rest : List (List Call)). (own ++ call.End ∷ []) ∷ rest) (rests_new gather calls (a + 1))

-- A script before its first turn.
pub record IsStarted (script : ScriptParts) (live : LivePlay) : Type 0 where
  pub under : IsUnderPlay script live
  pub playing : playing_of script.calls live ≡ start_of script.options script.calls

pub started_play : (script : ScriptParts) (live : LivePlay) → IsScript script → live.store.options ≡ script.options → live.store.sessions ≡ script.sessions → stage_of live.store ≡ empty_stage script.options script.sessions
    → ((s : ℕ) → 1 ≤ s → s ≤ script.sessions → IsAtHomeIn live.store (new_core s script.options.gather)) → live.players.items ≡ map (new_player script.options.gather) (range_with_len 1 script.sessions) → IsStarted script live
started_play script live is options sessions stage home players =
    let gather = script.options.gather in
    let calls = script.calls in
    let lists = is.one_list_each in
    let rest : rests calls live.players.items ≡ with_ends calls = ap (rests calls) (players ∙ ap (λ n. map (new_player gather) (range_with_len 1 n)) (sym lists)) ∙ rests_new gather calls 1 in
    let playing : playing_of calls live ≡ start_of script.options calls =
    ap (λ (xs : List (List Call)). record { stage = stage_of live.store; rest = xs }) rest
    ∙ ap (λ (x : Stage). record { stage = x; rest = with_ends calls }) (stage ∙ ap (empty_stage script.options) (sym lists)) in
    let none : live.store.history ≡ [] = ap (λ (x : Stage). x.history) stage in
    record {
      under = record {
        is_script = is;
        options = options;
        sessions = sessions;
        count = ap (λ (xs : List Player). length xs) players ∙ length-map-range_with_len (new_player gather) 1 script.sessions;
        each = λ i lt. subst (λ (o : Option Player). IfSome o (IsPlayer live.store (i + 1) (slice_index_or calls i [])))
            (sym (ap (λ (xs : List Player). slice_get xs i) players ∙ get_made (new_player gather) 1 script.sessions i lt))
            (record {
              session = refl;
              home = home (i + 1) (omega arith) (omega (arith, lt));
              pending = refl;
              replies = sym (ap (λ (es : List Entry). history_replies live.store.options live.store.sessions es (i + 1)) none);
              next = tt;
            });
        sound = subst (IsSoundPlay script.options calls) (sym playing) (sound_plays script.options calls (start_of script.options calls) (start_plays script.options calls (without_end script is)));
      };
      playing = playing;
    }

-- the turns of a schedule
turns_named : (sessions : ℕ) (turns : List Turn) → list_all (names_session sessions) turns ≡ true → AreTurnsOf sessions (map turn_of turns)
turns_named sessions [] all = tt
turns_named sessions (t ∷ turns) all = (one t (both_first (names_session sessions t) (list_all (names_session sessions) turns) all), turns_named sessions turns (both_second (names_session sessions t) (list_all (names_session sessions) turns) all))
  where
    one : (t : Turn) → names_session sessions t ≡ true → IsTurnOf sessions (turn_of t)
    one (turn.Session s) is = (at_most 1 s (both_first (nat_le 1 s) (nat_le s sessions) is), at_most s sessions (both_second (nat_le 1 s) (nat_le s sessions) is))
    one turn.Reclaim is = tt
    one turn.Shrink is = tt

pub schedule_turns : (script : ScriptParts) → IsScript script → AreTurnsOf (length script.calls) (schedule_of script)
schedule_turns script is = subst (λ n. AreTurnsOf n (schedule_of script)) (sym is.one_list_each) (turns_named script.sessions script.turns is.turns)

pub named_at : (sessions : ℕ) (turns : List Turn) (i : ℕ) (t : Turn) → list_all (names_session sessions) turns ≡ true → i < length turns → t ≡ get_or turns i t → names_session sessions t ≡ true
named_at sessions [] i t all lt is = absurd (omega (arith, lt))
named_at sessions (x ∷ turns) zero t all lt is = ap (names_session sessions) is ∙ both_first (names_session sessions x) (list_all (names_session sessions) turns) all
named_at sessions (x ∷ turns) (suc i) t all lt is = named_at sessions turns i t (both_second (names_session sessions x) (list_all (names_session sessions) turns) all) (omega (arith, lt)) is

-- the turns of a schedule that are left, and those of a round
pub turns_more : (turns : List Turn) (i : ℕ) (t : Turn) (p q last : Playing) → i < length turns → t ≡ get_or turns i t → q ≡ after_turn (turn_of t) p → after_turns (map turn_of (drop i turns)) p ≡ last → after_turns (map turn_of (drop (i + 1) turns)) q ≡ last
turns_more turns i t p q last lt is turned so_far =
    let next : drop i turns ≡ t ∷ drop (i + 1) turns = drop_more turns i t lt ∙ ap (λ (x : Turn). x ∷ drop (i + 1) turns) (sym is) in
    ap (after_turns (map turn_of (drop (i + 1) turns))) turned ∙ ap (λ (ts : List Turn). after_turns (map turn_of ts) p) (sym next) ∙ so_far

pub sessions_more : (n i : ℕ) (p q last : Playing) → i < n → q ≡ after_turn (OfSession (i + 1)) p → after_turns (map (λ s. OfSession s) (range_with_len (i + 1) (n - i))) p ≡ last → after_turns (map (λ s. OfSession s) (range_with_len (i + 1 + 1) (n - (i + 1)))) q ≡ last
sessions_more n i p q last lt turned so_far =
    let next : n - i ≡ suc (n - (i + 1)) = omega (arith, lt) in
    ap (after_turns (map (λ s. OfSession s) (range_with_len (i + 1 + 1) (n - (i + 1))))) turned ∙ ap (λ k. after_turns (map (λ s. OfSession s) (range_with_len (i + 1) k)) p) (sym next) ∙ so_far

pub round_done : {R E : Type 0} (result : Result R E) (calls : List (List Call)) (first now after : LivePlay) (n i : ℕ) → length calls ≡ n → n ≤ i
    → after_turns (map (λ s. OfSession s) (range_with_len (i + 1) (n - i))) (playing_of calls now) ≡ after_turns (map (λ s. OfSession s) (range_with_len 1 n)) (playing_of calls first)
    → OnOk result ((cs : List (List Call)) → playing_of cs after ≡ after_turn Reclaims (playing_of cs now)) → OnOk result (playing_of calls after ≡ after_turns (round (length calls)) (playing_of calls first))
round_done (Ok x) calls first now after n i same le so_far turned =
    let p = playing_of calls first in
    let none : n - i ≡ 0 = omega (arith, le) in
    let sessions : playing_of calls now ≡ after_turns (map (λ s. OfSession s) (range_with_len 1 n)) p = ap (λ k. after_turns (map (λ s. OfSession s) (range_with_len (i + 1) k)) (playing_of calls now)) (sym none) ∙ so_far in
    turned calls ∙ ap (after_turn Reclaims) sessions ∙ sym (turns-append (map (λ s. OfSession s) (range_with_len 1 n)) (Reclaims ∷ []) p) ∙ ap (λ k. after_turns (round k) p) (sym same)
round_done (Err e) calls first now after n i same le so_far turned = tt

-- the turns that are left after a round
pub fewer_turns : (script : ScriptParts) (live after : LivePlay) → IsUnderPlay script live → have_all_ended (playing_of script.calls live) ≡ false → playing_of script.calls after ≡ after_turns (round (length script.calls)) (playing_of script.calls live)
    → all_turns_left (length script.calls) (playing_of script.calls after) < all_turns_left (length script.calls) (playing_of script.calls live)
fewer_turns script live after under going turned =
    subst (λ (q : Playing). all_turns_left (length script.calls) q < all_turns_left (length script.calls) (playing_of script.calls live)) (sym turned) (round_falls script.options script.calls (playing_of script.calls live) (plays_of script live under) going)

pub one_more_round : (sessions n : ℕ) (first p q : Playing) → p ≡ after_turns (rounds sessions n) first → q ≡ after_turns (round sessions) p → q ≡ after_turns (rounds sessions (suc n)) first
one_more_round sessions n first p q before turned = turned ∙ ap (after_turns (round sessions)) before ∙ sym (rounds_more sessions n first)

-- the replies of all players
replies_listed : (f : ℕ → List Reply) (players : List Player) (a : ℕ) → ((i : ℕ) → i < length players → IfSome (slice_get players i) (λ x. x.replies ≡ f (i + a))) → map (λ x. x.replies) players ≡ map f (range_with_len a (length players))
replies_listed f [] a each = refl
replies_listed f (x ∷ players) a each =
    let first : x.replies ≡ f a = let here = each 0 (omega arith) in let same : 0 + a ≡ a = omega arith in here ∙ ap f same in
    ap (λ (rs : List Reply). rs ∷ map (λ y. y.replies) players) first
    ∙ ap (λ (rest : List (List Reply)). f a ∷ rest) (replies_listed f players (a + 1) (λ i lt. moved i (slice_get players i) (each (suc i) (omega (arith, lt)))))
  where
    moved : (i : ℕ) (o : Option Player) → IfSome o (λ x. x.replies ≡ f (suc i + a)) → IfSome o (λ x. x.replies ≡ f (i + (a + 1)))
    moved i None is = tt
    moved i (Some x) is = let same : suc i + a ≡ i + (a + 1) = omega arith in is ∙ ap f same

players_replies : (script : ScriptParts) (live : LivePlay) → IsUnderPlay script live → map (λ x. x.replies) live.players.items ≡ all_replies script.options (length script.calls) live.store.history
players_replies script live under =
    let lists = under.is_script.one_list_each in
    let count = under.count in
    let f = λ (s : ℕ). history_replies live.store.options live.store.sessions live.store.history s in
    replies_listed f live.players.items 1 (λ i lt. told i (slice_get live.players.items i) (under.each i (omega (arith, count, lt))))
    ∙ ap (λ n. map f (range_with_len 1 n)) (count ∙ sym lists)
    ∙ ap (λ (o : Options). all_replies_of o live.store.sessions (length script.calls) live.store.history) under.options
    ∙ ap (λ n. all_replies_of script.options n (length script.calls) live.store.history) (under.sessions ∙ sym lists)
  where
    all_replies_of : Options → ℕ → ℕ → List Entry → List (List Reply)
    all_replies_of o sessions n history = map (history_replies o sessions history) (range_with_len 1 n)

    told : (i : ℕ) (o : Option Player) → IfSome o (IsPlayer live.store (i + 1) (slice_index_or script.calls i [])) → IfSome o (λ x. x.replies ≡ history_replies live.store.options live.store.sessions live.store.history (i + 1))
    told i None is = tt
    told i (Some x) is = is.replies

-- What is told of a script under play.
pub record IsTold (live : LivePlay) (played : Played) : Type 0 where
  pub order : played.order ≡ map (λ entry. entry.token) live.store.history
  pub replies : played.replies ≡ map (λ player. player.replies) live.players.items
  pub places : played.places ≡ written_places (stage_of live.store)
  pub free : played.free ≡ free_of (stage_of live.store).table
  pub rows : played.rows ≡ row_ends_of (stage_of live.store).table
  pub commits : played.now ≡ commit_count (stage_of live.store).table

-- at the end
pub record IsOverAt (script : ScriptParts) (live : LivePlay) : Type 0 where
  pub under : IsUnderPlay script live
  pub end : IsEndOf (stage_of live.store) (end_of script)
  pub free : free_of (stage_of live.store).table ≡ script.options.capacity - length (all_blocks live.store.space.places)

pub over_at : (script : ScriptParts) (live : LivePlay) (n : ℕ) → IsUnderPlay script live → playing_of script.calls live ≡ play_for script.options script.calls (schedule_of script) n → have_all_ended (playing_of script.calls live) ≡ true → IsOverAt script live
over_at script live n under playing all =
    let options = script.options in
    let calls = script.calls in
    let schedule = schedule_of script in
    let plays = plays_of script live under in
    let end = end_is options calls schedule n (without_end script under.is_script) (schedule_turns script under.is_script) (subst (Plays options calls) playing plays) (subst (λ p. have_all_ended p ≡ true) playing all) in
    record {
      under = under;
      end = subst (λ (p : Playing). IsEndOf p.stage (end_of script)) (sym playing) end;
      free = free_is options calls (playing_of calls live) plays all;
    }

pub played_is : (script : ScriptParts) (live : LivePlay) (played : Played) → IsOverAt script live → IsTold live played → IsPlayed script played
played_is script live played over told =
    let end = over.end in
    record {
      order = told.order ∙ ap (λ (es : List Entry). map {B = Token} (λ e. e.token) es) end.history;
      replies = told.replies ∙ players_replies script live over.under ∙ ap (all_replies script.options (length script.calls)) end.history;
      places = told.places ∙ ap (λ (t : Table). map (written_place t) live.store.space.places) end.table ∙ ap (λ (xs : List Placed). map (written_place (end_of script).table) xs) end.places;
      free = told.free ∙ over.free ∙ ap (λ (xs : List Placed). script.options.capacity - length (all_blocks xs)) end.places;
      rows = told.rows ∙ ap row_ends_of end.table;
      commits = told.commits ∙ ap commit_count end.table;
    }

-- the same by the options and the number of sessions that were read from the script
pub started_of : (script : ScriptParts) (live : LivePlay) {options : Options} {sessions : ℕ} → IsScript script → options ≡ script.options → sessions ≡ script.sessions → live.store.options ≡ options → live.store.sessions ≡ sessions → stage_of live.store ≡ empty_stage options sessions
    → ((s : ℕ) → 1 ≤ s → s ≤ sessions → IsAtHomeIn live.store (new_core s options.gather)) → live.players.items ≡ map (new_player options.gather) (range_with_len 1 sessions) → IsStarted script live
started_of script live {options} {sessions} is options_are sessions_are opts sess stage home players =
    started_play script live is (opts ∙ options_are) (sess ∙ sessions_are)
    (stage ∙ ap (λ (o : Options). empty_stage o sessions) options_are ∙ ap (empty_stage script.options) sessions_are)
    (λ s low high. subst (λ (o : Options). IsAtHomeIn live.store (new_core s o.gather)) options_are (home s low (subst (λ n. s ≤ n) (sym sessions_are) high)))
    (players ∙ ap (λ (o : Options). map (new_player o.gather) (range_with_len 1 sessions)) options_are ∙ ap (λ n. map (new_player script.options.gather) (range_with_len 1 n)) sessions_are)

-- whether all have ended, by what the store's book has
pub all_ended_is : (calls : List (List Call)) (live : LivePlay) (options : Options) (sessions : ℕ) (history : List Entry) → options ≡ live.store.options → sessions ≡ live.store.sessions → history ≡ live.store.history
    → have_all_ended (playing_of calls live) ≡ list_all (λ x. x.has_ended) (history_table options sessions history).sessions
all_ended_is calls live options sessions history o s h =
    sym (ap (λ (x : Options). list_all (λ y. y.has_ended) (history_table x sessions history).sessions) o
    ∙ ap (λ n. list_all (λ y. y.has_ended) (history_table live.store.options n history).sessions) s
    ∙ ap (λ (es : List Entry). list_all (λ y. y.has_ended) (history_table live.store.options live.store.sessions es).sessions) h)

-- the play so far
pub play_so_far : (script : ScriptParts) (started scheduled live : LivePlay) (n : ℕ) → IsUnderPlay script live → playing_of script.calls started ≡ start_of script.options script.calls → playing_of script.calls scheduled ≡ after_turns (schedule_of script) (playing_of script.calls started)
    → playing_of script.calls live ≡ after_turns (rounds (length script.calls) n) (playing_of script.calls scheduled) → have_all_ended (playing_of script.calls live) ≡ true → IsOverAt script live
play_so_far script started scheduled live n under start turns more all =
    over_at script live n under (more ∙ ap (after_turns (rounds (length script.calls) n)) (turns ∙ ap (after_turns (schedule_of script)) start)) all

-- what a closed play gives
pub all_told : {E : Type 0} (result : Result (Played × BookView) E) (script : ScriptParts) (live : LivePlay) → IsOverAt script live
    → IfOk result (λ made. made.0.order ≡ map (λ entry. entry.token) live.store.history) → IfOk result (λ made. made.0.replies ≡ map (λ player. player.replies) live.players.items)
    → IfOk result (λ made. made.0.places ≡ written_places (stage_of live.store)) → IfOk result (λ made. made.0.free ≡ free_of (stage_of live.store).table)
    → IfOk result (λ made. made.0.rows ≡ row_ends_of (stage_of live.store).table) → IfOk result (λ made. made.0.now ≡ commit_count (stage_of live.store).table) → IfOk result (λ made. IsPlayed script made.0)
all_told (Ok made) script live over order replies places free rows commits = played_is script live made.0 over (record { order = order; replies = replies; places = places; free = free; rows = rows; commits = commits })
all_told (Err e) script live over order replies places free rows commits = tt

pub book_told : {E : Type 0} (result : Result (Played × BookView) E) (script : ScriptParts) (live : LivePlay) → IsOverAt script live
    → IfOk result (λ made. made.1.options ≡ live.store.options) → IfOk result (λ made. made.1.sessions ≡ live.store.sessions) → IfOk result (λ made. made.1.history ≡ live.store.history) → IfOk result (λ made. made.1.places ≡ live.store.space.places)
    → IfOk result (λ made. IsBookOf script made.1)
book_told (Ok made) script live over options sessions history places = record {
  options = options ∙ over.under.options;
  sessions = sessions ∙ over.under.sessions;
  history = history ∙ over.end.history;
  places = places ∙ over.end.places;
}
book_told (Err e) script live over options sessions history places = tt
