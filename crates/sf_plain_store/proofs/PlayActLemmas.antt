-- A session's player at the end of its turn.
use Rattle.std.proofs.Common.{◌≡◌, ℕ, ◌+◌, ◌-◌, Bool, true, false, cond, not, ◌&&◌, ◌⊎◌, List, [], ◌∷◌, ◌++◌, length, drop, Option, Some, None, Result, Ok, Err, refl, sym, ap, subst, ◌∙◌, inl, inr}
use Rattle.std.specs.Prelude.{slice_set, ◌==◌, OnOk, is_some}
use Rattle.std.specs.List.{cons_option}
use Rattle.std.specs.Option.{IfSome, option_map_or}
use Rattle.std.proofs.lemmas.List.{set-get_or}
use Rattle.sf_types.specs.declared.call.Call.{Call}
use Rattle.sf_types.specs.declared.call.Call.TheVariants as call
use Rattle.sf_types.specs.declared.history.Entry.{Entry}
use Rattle.sf_types.specs.declared.options.Options.{Options}
use Rattle.sf_types.specs.declared.reply.Reply.{Reply}
use Rattle.sf_types.specs.Table.Parts.{Promise, Table, opening_table}
use Rattle.sf_types.specs.Table.Sessions.{session_of}
use Rattle.sf_types.specs.Space.Due.{is_due}
use Rattle.sf_types.specs.Orders.Histories.{call_entries, table_after, history_table, history_replies}
use Rattle.sf_types.specs.Halves.Own.{Own, own_of, own_after, own_due, is_event, is_own_local}
use Rattle.sf_types.specs.Play.Turns.{Stage, action_at, action_reply, stage_after, Playing, with_rest, turn_from, session_turn}
use Rattle.sf_laws.specs.Plays.{is_done, IsNextCall, calls_left}
use Rattle.sf_laws.specs.UseWithinCapacity.{IsEnough}
use Rattle.sf_laws.proofs.HalfLemmas.{stands_where}
use Rattle.sf_laws.proofs.OwnLemmas.{due_by_own, goes_on}
use Rattle.sf_laws.proofs.OwnRunLemmas.{run-append}
use Rattle.sf_laws.proofs.TurnLemmas.{acted}
use Rattle.sf_session.specs.declared.need.Need.{Need}
use Rattle.sf_session.specs.declared.need.Need.TheVariants as need
use Rattle.sf_session.specs.declared.phase.Phase.{Phase}
use Rattle.sf_session.specs.declared.phase.Phase.TheVariants.{Unpromised, Promised, Collected}
use Rattle.sf_session.specs.Cores.{CoreView, need_of_call, need_of}
use Rattle.sf_session.specs.AtHome.{IsPromised, IsAtHomeAfter}
use Rattle.sf_session.proofs.HomeLemmas.{behind_pending}
use Rattle.sf_session.proofs.NeedLemmas.{event_need, reserve_need, publish_need, collect_promised, promised_is, IsPromisedCall}
use Rattle.sf_plain_store.specs.declared.players.Player.{Player}
use Rattle.sf_plain_store.specs.Inside.Players.{HasTurned, IsPlayer, left_of}
use Rattle.sf_plain_store.specs.Stores.{StoreView, IsAtHomeIn, stage_of, with_stage}
use Rattle.sf_plain_store.specs.Turns.{HasTaken, KeepsOthers, NeedsTurn, next_action, standing_after, store_after, turn_reply}
use Rattle.sf_plain_store.proofs.PlayTurnLemmas.{turn_first, turn_acts, first_next, left_after, table_acted, others_replies, own_replies_acted, collects_alone}
use Rattle.sf_plain_store.proofs.PlaySessionLemmas.{IsWithin, standing_next}

-- the rule's turn up to a player
turn_so_far : (own : List Call) (before now : StoreView) (first player : Player) (p : Playing) → IsPlayer before first.core.session own first → IsWithin own before now first player → p.stage ≡ stage_of before → calls_left p first.core.session ≡ left_of own first
    → session_turn first.core.session p ≡ turn_from p first.core.session player.core.own player.core.pending (left_of own player)
turn_so_far own before now first player p is within stage left =
    let s = first.core.session in
    let t = (stage_of before).table in
    let mine : first.core.own ≡ own_of p.stage.table s = is.home.home.home.own ∙ ap (own_after (own_of t s)) is.pending ∙ ap (λ (x : Stage). own_of x.table s) (sym stage) in
    sym (turn_first p s first.core.own [] (left_of own first) mine refl (sym left)) ∙ within.turn p stage

-- a turn of an ended session
none_left : (rest : List Call) → is_done rest ≡ true → rest ≡ []
none_left [] done = refl
none_left (c ∷ rest) done = absurd cc

ended_turns : (own : List Call) (before now : StoreView) (first : Player) → IsPlayer before first.core.session own first → IsWithin own before now first first → first.core.own.part.has_ended ≡ true → HasTurned own before before first first
ended_turns own before now first is within gone =
    let s = first.core.session in
    let none : left_of own first ≡ [] = none_left (left_of own first) (sym within.ended ∙ gone) in
    record {
      options = refl;
      sessions = refl;
      player = is;
      turn = λ p stage left.
          turn_so_far own before now first first p is within stage left
          ∙ ap (turn_from p s first.core.own first.core.pending) none
          ∙ ap (λ (lists : List (List Call)). record { stage = p.stage; rest = lists }) (sym (ap (slice_set p.rest (s - 1)) (sym left) ∙ set-get_or p.rest (s - 1) []))
          ∙ ap (λ (x : Stage). with_rest p s (left_of own first) x) stage;
      others = λ other apart home. home;
      replies = λ r apart. refl;
    }

pub turned_ended : (own : List Call) (before now : StoreView) (first player : Player) → IsPlayer before first.core.session own first → IsWithin own before now first player → need_of player.core ≡ need.Ended → HasTurned own before now first player
turned_ended own before now first player is within needs =
    let gone = ended_need player.core needs in
    let same = within.still gone in
    subst (λ (v : StoreView). HasTurned own before v first player) (sym within.store)
    (subst (HasTurned own before before first) (sym same)
    (ended_turns own before now first is (subst (IsWithin own before now first) same within) (subst (λ (x : Player). x.core.own.part.has_ended ≡ true) same gone)))
  where
    ended_need : (core : CoreView) → need_of core ≡ need.Ended → core.own.part.has_ended ≡ true
    ended_need core e = go core.own.part.has_ended core.standing refl e
      where
        unpromised : (due event : Bool) → cond due need.Reserve (cond event need.Event need.Local) ≡ need.Ended → ⊥
        unpromised true event e = cc
        unpromised false true e = cc
        unpromised false false e = cc

        promised : (b : Bool) (n : ℕ) → cond b need.Publish (need.Collect n) ≡ need.Ended → ⊥
        promised true n e = cc
        promised false n e = cc

        of_call : (phase : Phase) (c : Call) → need_of_call core.gather core.own phase c ≡ need.Ended → ⊥
        of_call Unpromised c e = unpromised (own_due core.gather core.own c) (is_event c) e
        of_call (Promised n) c e = promised (n == 0) n e
        of_call (Collected n) c e = cc

        go : (ended : Bool) (o : Option Call) → core.own.part.has_ended ≡ ended → cond ended need.Ended (option_map_or (need_of_call core.gather core.own core.phase) o need.Idle) ≡ need.Ended → core.own.part.has_ended ≡ true
        go true o g e = g
        go false None g e = absurd cc
        go false (Some c) g e = absurd (of_call core.phase c e)

-- a call that needs a turn of the store
pub record IsActing (core : CoreView) (c : Call) : Type 0 where
  pub goes_on : core.own.part.has_ended ≡ false
  pub stops : is_own_local core.gather core.own c ≡ false

and_not : (b : Bool) → (not b && not true) ≡ false
and_not true = refl
and_not false = refl

acting_due : (core : CoreView) (c : Call) → core.own.part.has_ended ≡ false → own_due core.gather core.own c ≡ true → IsActing core c
acting_due core c going due = record { goes_on = going; stops = ap (λ b. not (is_event c) && not b) due ∙ and_not (is_event c) }

-- a promise stands for a due call
promised_due : (options : Options) (sessions : ℕ) (history : List Entry) (core : CoreView) (c : Call) → IsAtHomeAfter options sessions history core → core.standing ≡ Some c → IsPromisedCall core → IsActing core c
promised_due options sessions history core c at standing promised =
    let s = core.session in
    let t = history_table options sessions history in
    let has = promised_is (session_of t s).promise core.pending core.standing core.phase c promised.phase standing at.home.promised in
    let stands = stands_where options sessions history at.legal in
    let enough : IsEnough t s has.promise = subst (λ (o : Option Promise). IfSome o (IsEnough t s)) has.is (stands.within.promises s at.home.session) in
    let mine : core.own ≡ own_of t s = at.home.own ∙ ap (own_after (own_of t s)) has.none in
    acting_due core c promised.goes_on (ap (λ g. own_due g core.own c) at.home.gather ∙ ap (λ (o : Own). own_due t.options.gather o c) mine ∙ sym (due_by_own t s c stands.rising) ∙ ap (is_due t s) (sym has.call) ∙ enough.due)

acting : (options : Options) (sessions : ℕ) (history : List Entry) (core : CoreView) (c : Call) → IsAtHomeAfter options sessions history core → core.standing ≡ Some c → NeedsTurn core → IsActing core c
acting options sessions history core c at standing needs = elim needs [
  | inl event ↦ let parts = event_need core c standing event in record { goes_on = parts.goes_on; stops = ap (λ b. not b && not (own_due core.gather core.own c)) parts.event_is }
  | inr (inl reserve) ↦ let parts = reserve_need core c standing reserve in acting_due core c parts.goes_on parts.due
  | inr (inr (inl collect)) ↦ promised_due options sessions history core c at standing (collect_promised core collect.0 collect.1)
  | inr (inr (inr publish)) ↦ promised_due options sessions history core c at standing (publish_need core c standing publish)
]

-- pending calls beside a promise
pending_or_free : (o : Option Promise) (pending : List Call) (standing : Option Call) (phase : Phase) → IsPromised o pending standing phase → (pending ≡ []) ⊎ (o ≡ None)
pending_or_free None pending standing phase is = inr refl
pending_or_free (Some q) pending (Some c) Unpromised is = absurd is
pending_or_free (Some q) pending (Some c) (Promised n) is = inl is.0
pending_or_free (Some q) pending (Some c) (Collected n) is = inl is.0
pending_or_free (Some q) pending None Unpromised is = absurd is
pending_or_free (Some q) pending None (Promised n) is = absurd is
pending_or_free (Some q) pending None (Collected n) is = absurd is

alone : (options : Options) (sessions : ℕ) (history : List Entry) (core : CoreView) → IsAtHomeAfter options sessions history core → core.own.part.has_ended ≡ false
    → (core.pending ≡ []) ⊎ ((session_of (table_after (history_table options sessions history) (call_entries core.session core.pending)) core.session).promise ≡ None)
alone options sessions history core at going =
    let s = core.session in
    let t = history_table options sessions history in
    elim (pending_or_free (session_of t s).promise core.pending core.standing core.phase at.home.promised) [
      | inl none ↦ inl none
      | inr free ↦ inr (ap (λ (x : Table). (session_of x s).promise) (sym (run-append (opening_table options sessions) history (call_entries s core.pending))) ∙ (behind_pending options sessions history core at going free).unpromised)
    ]

-- the store at a stage of its own
stage_back : (v : StoreView) (x : Stage) → x.table ≡ history_table v.options v.sessions x.history → stage_of (with_stage v x) ≡ x
stage_back v x is = ap (λ (t : Table). record { history = x.history; table = t; space = x.space }) (sym is)

-- the player after a turn of the store
acted_player : (own : List Call) (before : StoreView) (first player new : Player) (c : Call) (later : List Call) (told : Option Reply) (after : StoreView) → IsWithin own before before first player → left_of own player ≡ c ∷ later → player.core.standing ≡ Some c
    → HasTaken player.core new.core told → new.replies ≡ player.replies ++ cons_option told [] → left_of own new ≡ cond (is_some told) later (c ∷ later) → IsAtHomeIn after new.core
    → player.replies ++ cons_option told [] ≡ history_replies after.options after.sessions after.history first.core.session → IsPlayer after first.core.session own new
acted_player own before first player new c later told after within left standing taken replies left_new home all = record {
  session = taken.session ∙ within.session;
  home = home;
  pending = taken.pending;
  replies = replies ∙ all;
  next = go told taken.standing left_new;
}
  where
    go : (o : Option Reply) → new.core.standing ≡ standing_after player.core.standing o → left_of own new ≡ cond (is_some o) later (c ∷ later) → IfSome new.core.standing (λ d. IsNextCall d (left_of own new))
    go (Some r) is rest = subst (λ (s : Option Call). IfSome s (λ d. IsNextCall d (left_of own new))) (sym is) tt
    go None is rest = subst (λ (s : Option Call). IfSome s (λ d. IsNextCall d (left_of own new))) (sym (is ∙ standing)) (first_next c (left_of own new) later rest)

acts : (own : List Call) (before after : StoreView) (first player new : Player) (c : Call) → IsPlayer before first.core.session own first → IsWithin own before before first player → player.core.standing ≡ Some c → NeedsTurn player.core
    → after ≡ store_after before player.core c → HasTaken player.core new.core (turn_reply before player.core c) → new.replies ≡ player.replies ++ cons_option (turn_reply before player.core c) [] → IsAtHomeIn after new.core → KeepsOthers before after player.core.session
    → HasTurned own before after first new
acts own before after first player new c is within standing needs after_is taken replies home others =
    let core = player.core in
    let k = first.core.session in
    let s = core.session in
    let x = stage_of before in
    let locals = core.pending in
    let a = next_action before core c in
    let told = turn_reply before core c in
    let y = stage_after x s locals c a in
    let at = within.home.home in
    let act = acting before.options before.sessions before.history core c at standing needs in
    let free = alone before.options before.sessions before.history core at act.goes_on in
    let next = standing_next own player c standing within.next in
    let later = next.later in
    let table = table_acted before.options before.sessions x s locals c a refl in
    let stage : stage_of after ≡ y = ap stage_of after_is ∙ stage_back before y table in
    let left_new : left_of own new ≡ cond (is_some told) later (c ∷ later) = ap (λ (rs : List Reply). drop (length rs) (own ++ call.End ∷ [])) replies ∙ left_after (own ++ call.End ∷ []) player.replies told c later next.is in
    let brought = own_replies_acted before.options before.sessions x s locals c a refl (collects_alone x s locals c free) in
    let all : player.replies ++ cons_option told [] ≡ history_replies after.options after.sessions after.history k =
    ap (λ (rs : List Reply). rs ++ cons_option told []) within.replies
    ∙ sym brought
    ∙ ap (λ (v : StoreView). history_replies v.options v.sessions v.history s) (sym after_is)
    ∙ ap (history_replies after.options after.sessions after.history) within.session in
    record {
      options = ap (λ (v : StoreView). v.options) after_is;
      sessions = ap (λ (v : StoreView). v.sessions) after_is;
      player = acted_player own before first player new c later told after within next.is standing taken replies left_new home all;
      turn = λ p at_stage left.
          let here : is_own_local p.stage.table.options.gather core.own c ≡ false = ap (λ (z : Stage). is_own_local z.table.options.gather core.own c) at_stage ∙ ap (λ g. is_own_local g core.own c) (sym at.home.gather) ∙ act.stops in
          turn_so_far own before before first player p is within at_stage left
          ∙ ap (turn_from p k core.own locals) next.is
          ∙ turn_acts p k core.own locals c later here
          ∙ ap (λ n. acted p n locals c later) (sym within.session)
          ∙ ap (λ (z : Stage). with_rest p s (cond (is_some (action_reply z s locals c (action_at z s locals c))) later (c ∷ later)) (stage_after z s locals c (action_at z s locals c))) at_stage
          ∙ ap (λ (rest : List Call). with_rest p s rest y) (sym left_new)
          ∙ ap (with_rest p s (left_of own new)) (sym stage)
          ∙ ap (λ n. with_rest p n (left_of own new) (stage_of after)) within.session;
      others = λ other apart. others other (λ same. apart (same ∙ within.session));
      replies = λ r apart.
          ap (λ (v : StoreView). history_replies v.options v.sessions v.history r) after_is
          ∙ others_replies before.options before.sessions x r s locals c a (λ same. apart (same ∙ within.session));
    }

pub turned_acted : (own : List Call) (before now after : StoreView) (first player new : Player) (c : Call) → IsPlayer before first.core.session own first → IsWithin own before now first player → player.core.standing ≡ Some c → NeedsTurn player.core
    → after ≡ store_after now player.core c → HasTaken player.core new.core (turn_reply now player.core c) → new.replies ≡ player.replies ++ cons_option (turn_reply now player.core c) [] → IsAtHomeIn after new.core → KeepsOthers now after player.core.session
    → HasTurned own before after first new
turned_acted own before now after first player new c is within standing needs after_is taken replies home others =
    let same = within.store in
    acts own before after first player new c is (subst (λ (v : StoreView). IsWithin own before v first player) same within) standing needs
    (subst (λ (v : StoreView). after ≡ store_after v player.core c) same after_is)
    (subst (λ (v : StoreView). HasTaken player.core new.core (turn_reply v player.core c)) same taken)
    (subst (λ (v : StoreView). new.replies ≡ player.replies ++ cons_option (turn_reply v player.core c) []) same replies)
    home
    (subst (λ (v : StoreView). KeepsOthers v after player.core.session) same others)

-- a call stands that needs something
pub record HasCall (core : CoreView) : Type 0 where
  pub call : Call
  pub is : core.standing ≡ Some call

pub standing_of : (core : CoreView) (n : Need) → need_of core ≡ n → (n ≡ need.Idle → ⊥) → (n ≡ need.Ended → ⊥) → HasCall core
standing_of core n needs busy going = go core.own.part.has_ended core.standing refl needs
  where
    go : (ended : Bool) (o : Option Call) → core.standing ≡ o → cond ended need.Ended (option_map_or (need_of_call core.gather core.own core.phase) o need.Idle) ≡ n → HasCall core
    go true o s e = absurd (going (sym e))
    go false None s e = absurd (busy (sym e))
    go false (Some c) s e = record { call = c; is = s }

pub standing_at_turn : (core : CoreView) → NeedsTurn core → HasCall core
standing_at_turn core needs = elim needs [
  | inl event ↦ standing_of core need.Event event (λ e. cc) (λ e. cc)
  | inr (inl reserve) ↦ standing_of core need.Reserve reserve (λ e. cc) (λ e. cc)
  | inr (inr (inl collect)) ↦ standing_of core (need.Collect collect.0) collect.1 (λ e. cc) (λ e. cc)
  | inr (inr (inr publish)) ↦ standing_of core need.Publish publish (λ e. cc) (λ e. cc)
]

-- so the player has taken its turn, where the store's turn was done
pub turned_by : {R E : Type 0} (result : Result R E) (own : List Call) (before now after : StoreView) (first player new : Player) → IsPlayer before first.core.session own first → IsWithin own before now first player → NeedsTurn player.core
    → OnOk result ((c : Call) → player.core.standing ≡ Some c → after ≡ store_after now player.core c)
    → OnOk result ((c : Call) → player.core.standing ≡ Some c → HasTaken player.core new.core (turn_reply now player.core c))
    → OnOk result ((c : Call) → player.core.standing ≡ Some c → new.replies ≡ player.replies ++ cons_option (turn_reply now player.core c) [])
    → OnOk result (IsAtHomeIn after new.core) → OnOk result (KeepsOthers now after player.core.session) → OnOk result (HasTurned own before after first new)
turned_by (Ok x) own before now after first player new is within needs store core replies home others =
    let stands = standing_at_turn player.core needs in
    turned_acted own before now after first player new stands.call is within stands.is needs (store stands.call stands.is) (core stands.call stands.is) (replies stands.call stands.is) home others
turned_by (Err e) own before now after first player new is within needs store core replies home others = tt
