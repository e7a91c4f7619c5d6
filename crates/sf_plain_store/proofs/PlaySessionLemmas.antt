-- A session's player, call after call of its turn.
use Rattle.std.proofs.Common.{◌≡◌, ℕ, zero, suc, ◌+◌, ◌-◌, ◌*◌, ◌≤◌, ◌<◌, Bool, true, false, List, [], ◌∷◌, ◌++◌, length, drop, Option, Some, None, refl, sym, ap, subst, ◌∙◌, arith, append_assoc, length-append}
use Rattle.std.specs.Prelude.{◌≢◌}
use Rattle.std.specs.List.{AllByRecursion as Each, cons_option}
use Rattle.std.specs.Option.{IfSome}
use Rattle.std.proofs.lemmas.List.{append-nil}
use Rattle.sf_types.specs.declared.call.Call.{Call}
use Rattle.sf_types.specs.declared.call.Call.TheVariants as call
use Rattle.sf_types.specs.declared.history.Entry.{Entry}
use Rattle.sf_types.specs.declared.history.Kind.TheVariants as kind
use Rattle.sf_types.specs.declared.reply.Reply.{Reply}
use Rattle.sf_types.specs.Table.Sessions.{session_of}
use Rattle.sf_types.specs.Orders.Histories.{entry_of, call_entries, history_table, history_replies}
use Rattle.sf_types.specs.Halves.Own.{own_call, own_step, is_own_local}
use Rattle.sf_types.specs.Play.Turns.{Stage, Playing, turn_from}
use Rattle.sf_laws.specs.Plays.{is_done, IsNextCall}
use Rattle.sf_laws.proofs.EndedLemmas.{not_end}
use Rattle.sf_laws.proofs.OwnLemmas.{goes_on}
use Rattle.sf_laws.proofs.TurnLemmas.{EndsLast}
use Rattle.sf_session.specs.declared.need.Need.TheVariants as need
use Rattle.sf_session.specs.Cores.{CoreView, need_of, started, ended_locally}
use Rattle.sf_session.specs.AtHome.{with_pending}
use Rattle.sf_session.proofs.NeedLemmas.{local_need, idle_need, idle_is}
use Rattle.sf_session.proofs.CallHomeLemmas.{started_home, local_done}
use Rattle.sf_plain_store.specs.declared.players.Player.{Player}
use Rattle.sf_plain_store.specs.Inside.Players.{IsPlayer, call_at, left_of}
use Rattle.sf_plain_store.specs.Stores.{StoreView, IsAtHomeIn, stage_of, collected_count}
use Rattle.sf_plain_store.proofs.PlayReplyLemmas.{replies_one}
use Rattle.sf_plain_store.proofs.PlayTurnLemmas.{turn_passes, local_goes_on, next_from, some_from, next_first, first_next, left_after}

-- A player within its session's turn: it began in step with the store, and the rule's turn goes on from here.
pub record IsWithin (own : List Call) (before now : StoreView) (first player : Player) : Type 0 where
  pub store : now ≡ before
  pub session : player.core.session ≡ first.core.session
  pub home : IsAtHomeIn before player.core
  pub replies : player.replies ≡ history_replies before.options before.sessions (with_pending before.history player.core) player.core.session
  pub next : IfSome player.core.standing (λ c. IsNextCall c (left_of own player))
  pub ended : player.core.own.part.has_ended ≡ is_done (left_of own player)
  pub still : player.core.own.part.has_ended ≡ true → player ≡ first
  pub turn : (p : Playing) → p.stage ≡ stage_of before → turn_from p first.core.session first.core.own [] (left_of own first) ≡ turn_from p first.core.session player.core.own player.core.pending (left_of own player)

-- The number of calls that stand.
abbrev pub standing_count : Option Call → ℕ
standing_count None = 0
standing_count (Some c) = 1

-- How many steps a player's turn may take: each call that is left begins and ends.
abbrev pub steps_left : List Call → Player → ℕ
steps_left own player = 2 * (length own + 1 - length player.replies) - standing_count player.core.standing

-- at first
pub within_first : (own : List Call) (store : StoreView) (player : Player) → IsPlayer store player.core.session own player → player.core.own.part.has_ended ≡ is_done (left_of own player) → IsWithin own store store player player
within_first own store player is ended =
    let core = player.core in
    let same : with_pending store.history core ≡ store.history = ap (λ (cs : List Call). store.history ++ call_entries core.session cs) is.pending ∙ append-nil store.history in
    record {
      store = refl;
      session = refl;
      home = is.home;
      replies = is.replies ∙ ap (λ (es : List Entry). history_replies store.options store.sessions es core.session) (sym same);
      next = is.next;
      ended = ended;
      still = λ e. refl;
      turn = λ p at. ap (λ (cs : List Call). turn_from p core.session core.own cs (left_of own player)) (sym is.pending);
    }

-- a player by its parts
player_is : (player : Player) (core : CoreView) (replies : List Reply) → player.core ≡ core → player.replies ≡ replies → player ≡ record { core = core; replies = replies }
player_is player core replies c r =
    ap (λ (x : CoreView). record { core = x; replies = player.replies }) c
    ∙ ap (λ (rs : List Reply). record { core = core; replies = rs }) r

-- the calls that are left where a call stands
pub record HasNext (own : List Call) (player : Player) (c : Call) : Type 0 where
  pub later : List Call
  pub is : left_of own player ≡ c ∷ later

pub standing_next : (own : List Call) (player : Player) (c : Call) → player.core.standing ≡ Some c → IfSome player.core.standing (λ d. IsNextCall d (left_of own player)) → HasNext own player c
standing_next own player c standing next =
    let here : IsNextCall c (left_of own player) = subst (λ (o : Option Call). IfSome o (λ d. IsNextCall d (left_of own player))) standing next in
    let pair = next_first c (left_of own player) here in
    record { later = pair.0; is = pair.1 }

pub not_both : (b : Bool) → b ≡ false → b ≡ true → ⊥
not_both b is other = let wrong : false ≡ true = sym is ∙ other in cc

-- a call begins
pub some_left : (own : List Call) (player : Player) → player.core.own.part.has_ended ≡ is_done (left_of own player) → need_of player.core ≡ need.Idle → length player.replies ≤ length own
some_left own player ended needs = some_from own (length player.replies) (sym ended ∙ (idle_need player.core needs).goes_on)

begun : (own : List Call) (before now : StoreView) (first old : Player) → IsWithin own before now first old → need_of old.core ≡ need.Idle
    → IsWithin own before now first (record { core = started old.core (call_at own (length old.replies)); replies = old.replies })
begun own before now first old within needs =
    let core = old.core in
    let n = length old.replies in
    let idle = idle_need core needs in
    let at = within.home.home in
    let t = history_table before.options before.sessions before.history in
    let phase = (idle_is (session_of t core.session).promise core.pending core.standing core.phase idle.standing at.home.promised).1 in
    record {
      store = within.store;
      session = within.session;
      home = record {
        home = record { legal = at.legal; home = started_home t core (call_at own n) at.home needs };
        collected = within.home.collected ∙ ap collected_count phase;
      };
      replies = within.replies;
      next = first_next (call_at own n) (left_of own old) _ (next_from own n (some_left own old within.ended needs));
      ended = within.ended;
      still = λ e. absurd (not_both core.own.part.has_ended idle.goes_on e);
      turn = within.turn;
    }

pub within_begun : (own : List Call) (before now : StoreView) (first old new : Player) → IsWithin own before now first old → need_of old.core ≡ need.Idle → new.core ≡ started old.core (call_at own (length old.replies)) → new.replies ≡ old.replies
    → IsWithin own before now first new
within_begun own before now first old new within needs core replies =
    subst (IsWithin own before now first) (sym (player_is new (started old.core (call_at own (length old.replies))) old.replies core replies)) (begun own before now first old within needs)

-- a local call ends
ends_from : (own : List Call) (n : ℕ) → Each (λ c. c ≢ call.End) own → EndsLast (drop n (own ++ call.End ∷ []))
ends_from [] zero all = (refl, tt)
ends_from [] (suc zero) all = tt
ends_from [] (suc (suc n)) all = tt
ends_from (c ∷ own) zero all = (not_end c all.0 ∙ sym (more own), ends_from own zero all.1)
  where
    more : (own : List Call) → is_done (own ++ call.End ∷ []) ≡ false
    more [] = refl
    more (d ∷ own) = refl
ends_from (c ∷ own) (suc n) all = ends_from own n all.1

ended : (own : List Call) (before now : StoreView) (first old : Player) (c : Call) → Each (λ d. d ≢ call.End) own → IsWithin own before now first old → old.core.standing ≡ Some c → need_of old.core ≡ need.Local
    → IsWithin own before now first (record { core = ended_locally old.core c; replies = old.replies ++ (own_call old.core.own c).1 ∷ [] })
ended own before now first old c without within standing needs =
    let core = old.core in
    let s = core.session in
    let o = core.own in
    let r = (own_call o c).1 in
    let parts = local_need core c standing needs in
    let next = standing_next own old c standing within.next in
    let later = next.later in
    let left : drop (length (old.replies ++ r ∷ [])) (own ++ call.End ∷ []) ≡ later = left_after (own ++ call.End ∷ []) old.replies (Some r) c later next.is in
    let at = within.home.home in
    let done = local_done before.options before.sessions before.history core c at standing needs in
    let is : is_own_local core.gather o c ≡ true = rw (parts.event_is, parts.due_is) refl in
    let front = with_pending before.history core in
    let e = entry_of s kind.Call c in
    let entries : before.history ++ call_entries s (core.pending ++ c ∷ []) ≡ front ++ e ∷ [] = ap (λ (es : List Entry). before.history ++ es) (entries_more s core.pending c) ∙ sym (append_assoc before.history (call_entries s core.pending) (e ∷ [])) in
    let goes : (own_step o c).part.has_ended ≡ false = (goes_on o c).0 ∙ parts.goes_on in
    record {
      store = within.store;
      session = within.session;
      home = record { home = done.home; collected = within.home.collected };
      replies = sym (ap (λ (es : List Entry). history_replies before.options before.sessions es s) entries
          ∙ replies_one before.options before.sessions front s kind.Call c
          ∙ ap (λ (told : Option Reply). history_replies before.options before.sessions front s ++ cons_option told []) done.reply
          ∙ ap (λ (rs : List Reply). rs ++ r ∷ []) (sym within.replies));
      next = tt;
      ended = goes ∙ sym (ap is_done left ∙ local_goes_on core.gather o c later is (subst EndsLast next.is (ends_from own (length old.replies) without)));
      still = λ e. absurd (not_both (own_step o c).part.has_ended goes e);
      turn = λ p stage.
          let k = first.core.session in
          let here : is_own_local p.stage.table.options.gather o c ≡ true = ap (λ (x : Stage). is_own_local x.table.options.gather o c) stage ∙ ap (λ g. is_own_local g o c) (sym at.home.gather) ∙ is in
          within.turn p stage
          ∙ ap (turn_from p k o core.pending) next.is
          ∙ turn_passes p k o core.pending c later here
          ∙ ap (turn_from p k (own_step o c) (core.pending ++ c ∷ [])) (sym left);
    }
  where
    entries_more : (s : ℕ) (cs : List Call) (c : Call) → call_entries s (cs ++ c ∷ []) ≡ call_entries s cs ++ entry_of s kind.Call c ∷ []
    entries_more s [] c = refl
    entries_more s (d ∷ cs) c = ap (λ (es : List Entry). entry_of s kind.Call d ∷ es) (entries_more s cs c)

pub within_ended : (own : List Call) (before now : StoreView) (first old new : Player) (c : Call) → Each (λ d. d ≢ call.End) own → IsWithin own before now first old → old.core.standing ≡ Some c → need_of old.core ≡ need.Local
    → new.core ≡ ended_locally old.core c → new.replies ≡ old.replies ++ (own_call old.core.own c).1 ∷ [] → IsWithin own before now first new
within_ended own before now first old new c without within standing needs core replies =
    subst (IsWithin own before now first) (sym (player_is new (ended_locally old.core c) (old.replies ++ (own_call old.core.own c).1 ∷ []) core replies)) (ended own before now first old c without within standing needs)

-- so each step leaves fewer
pub steps_begun : (own : List Call) (before now : StoreView) (first old new : Player) → IsWithin own before now first old → need_of old.core ≡ need.Idle → new.core ≡ started old.core (call_at own (length old.replies)) → new.replies ≡ old.replies → steps_left own new < steps_left own old
steps_begun own before now first old new within needs core replies =
    let n = length old.replies in
    let le = some_left own old within.ended needs in
    let free : standing_count old.core.standing ≡ 0 = ap standing_count (idle_need old.core needs).standing in
    let stands : standing_count new.core.standing ≡ 1 = ap (λ (x : CoreView). standing_count x.standing) core in
    let same : length new.replies ≡ n = ap (λ (rs : List Reply). length rs) replies in
    omega (arith, le, free, stands, same)

pub steps_ended : (own : List Call) (before now : StoreView) (first old new : Player) (c : Call) → IsWithin own before now first old → old.core.standing ≡ Some c → new.core ≡ ended_locally old.core c → new.replies ≡ old.replies ++ (own_call old.core.own c).1 ∷ [] → steps_left own new < steps_left own old
steps_ended own before now first old new c within standing core replies =
    let n = length old.replies in
    let next = standing_next own old c standing within.next in
    let le = some_from own n (ap is_done next.is) in
    let stands : standing_count old.core.standing ≡ 1 = ap standing_count standing in
    let free : standing_count new.core.standing ≡ 0 = ap (λ (x : CoreView). standing_count x.standing) core in
    let more = ap (λ (rs : List Reply). length rs) replies ∙ length-append old.replies ((own_call old.core.own c).1 ∷ []) in
    omega (arith, le, free, stands, more)
