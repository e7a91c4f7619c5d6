-- A turn in which an event ends.
use Rattle.std.proofs.Common.{◌≡◌, ℕ, Bool, cond, IsTrue, true, false, List, [], ◌∷◌, ◌++◌, length, Option, Some, None, refl, sym, ap, subst, ◌∙◌}
use Rattle.std.specs.Option.{IfSome}
use Rattle.sf_types.specs.declared.call.Call.{Call}
use Rattle.sf_types.specs.declared.history.Entry.{Entry}
use Rattle.sf_types.specs.declared.history.Kind.TheVariants as kind
use Rattle.sf_types.specs.declared.options.Options.{Options}
use Rattle.sf_types.specs.Table.Parts.{Promise, Table}
use Rattle.sf_types.specs.Table.Sessions.{has_session, session_of}
use Rattle.sf_types.specs.Space.Due.{is_due}
use Rattle.sf_types.specs.Orders.Histories.{call_entries, effect_of, entry_of, history_table, table_after}
use Rattle.sf_types.specs.Play.Blocks.{collected_by}
use Rattle.sf_types.specs.Play.Turns.{Action, Ends, Promises, Stage, action_reply, action_where, stage_after, with_entries}
use Rattle.sf_types.specs.declared.reply.Reply.{Reply}
use Rattle.sf_types.specs.Halves.Own.{Own}
use Rattle.sf_types.specs.Halves.Asks.{after_answer, half_answer, half_of, kept_births, request_of}
use Rattle.sf_laws.proofs.StageLemmas.{Holds, action_keeps, holds_sound}
use Rattle.sf_block_space.specs.Free.{FreeSpace}
use Rattle.sf_versions.specs.declared.asks.Flush.{Flush}
use Rattle.sf_versions.specs.declared.asks.Answer.{Answer}
use Rattle.sf_versions.specs.declared.asks.Batch.{Batch}
use Rattle.sf_versions.specs.Asks.{IsAnswer}
use Rattle.sf_session.specs.declared.need.Need.TheVariants as need
use Rattle.sf_session.specs.declared.phase.Phase.TheVariants.{Unpromised}
use Rattle.sf_session.specs.Cores.{CoreView, accepted, need_of}
use Rattle.sf_session.specs.AtHome.{IsAtHome, event_answer, reply_after, with_pending}
use Rattle.sf_session.proofs.EventLemmas.{due_behind, event_done}
use Rattle.sf_session.proofs.HomeLemmas.{IsBehindPending, behind_pending}
use Rattle.sf_session.proofs.NeedLemmas.{event_need, unpromised_is}
use Rattle.sf_book.specs.Books.{BookView, table_of}
use Rattle.sf_book.specs.Moves.{IsMoved, own_with_batch, table_with_batch}
use Rattle.sf_plain_store.specs.declared.due_calls.DueCall.{DueCall}
use Rattle.sf_plain_store.specs.Stores.{IsAtHomeIn, StoreView, collected_count, stage_of, with_stage}
use Rattle.sf_plain_store.specs.Turns.{IsTurn, KeepsOthers, next_action, store_after, turn_reply}
use Rattle.sf_plain_store.specs.Inside.Bodies.{IsKept, IsStore, flush_at, store_of}
use Rattle.sf_plain_store.proofs.EntryTurnLemmas.{AreEntries, others_at_home, quiet_collected, store_stands, unpromised_slot}
use Rattle.sf_plain_store.proofs.KeptFlushLemmas.{others_entries}
use Rattle.sf_plain_store.proofs.PendingLemmas.{at_call, batch_table, home_moved, one_stands, own_pending, pending_history, pending_table}
use Rattle.sf_plain_store.proofs.StoreMoveLemmas.{moved_store}

-- What an action without a promise is, by whether the call is due behind the pending calls.
pub unpromised_action : (v : StoreView) (core : CoreView) (c : Call) (due : Bool) → IsBehindPending v.options v.sessions v.history core
    → is_due (history_table v.options v.sessions (with_pending v.history core)) core.session c ≡ due → next_action v core c ≡ cond due Promises Ends
unpromised_action v core c due behind is =
    let whole = pending_table v.options v.sessions v.history core in
    let s = core.session in
    let n = length (collected_by v.space s) in
    ap (λ (m : Table). action_where (session_of m s).promise (is_due m s c) n) (sym whole)
    ∙ ap (λ (o : Option Promise). action_where o (is_due (history_table v.options v.sessions (with_pending v.history core)) s c) n) behind.unpromised
    ∙ ap (λ b. cond b Promises Ends) is

-- What a turn does in which an event ends.
pub record IsEventTurn (b a : BookView) (free : FreeSpace) (due_calls : List DueCall) (core : CoreView) (c : Call) : Type 0 where
  pub store : IsStore a free due_calls
  pub after : store_of a free due_calls ≡ store_after (store_of b free due_calls) core c
  pub reply : turn_reply (store_of b free due_calls) core c ≡ Some (after_answer core.own c (event_answer (history_table b.options b.sessions (with_pending b.history core)) core c)).1
  pub home : IsAtHomeIn (store_of a free due_calls) (accepted core c (event_answer (history_table b.options b.sessions (with_pending b.history core)) core c))
  pub others : KeepsOthers (store_of b free due_calls) (store_of a free due_calls) core.session

pub event_turn : (b a : BookView) (free : FreeSpace) (due_calls : List DueCall) (core : CoreView) (c : Call) → IsStore b free due_calls → IsAtHomeIn (store_of b free due_calls) core
    → core.standing ≡ Some c → need_of core ≡ need.Event → IsMoved b a (call_entries core.session core.pending ++ entry_of core.session kind.Call c ∷ []) [] → IsEventTurn b a free due_calls core c
event_turn b a free due_calls core c store at standing needs moved =
    let v = store_of b free due_calls in
    let x = stage_of v in
    let t = table_of b in
    let s = core.session in
    let e = entry_of s kind.Call c in
    let es = call_entries s core.pending ++ e ∷ [] in
    let y = with_entries x s es in
    let u = history_table b.options b.sessions (with_pending b.history core) in
    let parts = event_need core c standing needs in
    let none = unpromised_is (session_of t s).promise core.pending core.standing core.phase parts.phase at.home.home.promised in
    let behind = behind_pending b.options b.sessions b.history core at.home parts.goes_on none in
    let due = due_behind b.options b.sessions b.history core c behind ∙ parts.due_is in
    let action = unpromised_action v core c false behind due in
    let stage : stage_after x s core.pending c (next_action v core c) ≡ y = ap (stage_after x s core.pending c) action in
    let before = holds_sound b.options b.sessions x store.sound in
    let holds : Holds b.options b.sessions y = subst (Holds b.options b.sessions) stage (action_keeps b.options b.sessions x s core.pending c before (at_call t core c at.home.home parts.goes_on none)) in
    let is = moved_store b a free due_calls due_calls s es moved none refl in
    let done = event_done b.options b.sessions b.history core c at.home standing needs in
    let next = accepted core c (event_answer u core c) in
    let of : AreEntries v due_calls due_calls s es = record {
      holds = holds;
      entries = λ r apart. others_entries s r core.pending kind.Call c apart;
      slots = λ r low apart. refl;
      collected = λ r low apart. quiet_collected x s r es none;
    } in
    let ended : (session_of (history_table b.options b.sessions (b.history ++ es)) s).promise ≡ None =
    ap (λ (h : List Entry). (session_of (history_table b.options b.sessions h) s).promise) (sym (pending_history b.history core kind.Call c))
    ∙ unpromised_is (session_of (history_table b.options b.sessions (with_pending b.history core ++ e ∷ [])) s).promise [] None Unpromised refl done.home.home.promised in
    let own_slot = unpromised_slot b.options t (history_table b.options b.sessions (b.history ++ es)) s (flush_at due_calls s) (store.flushes s at.home.home.session) ended in
    let home = home_moved b.options a.options b.sessions a.sessions (with_pending b.history core ++ e ∷ []) a.history next moved.options moved.sessions (moved.history ∙ sym (pending_history b.history core kind.Call c)) done.home in
    record {
      store = store_stands b a free free due_calls due_calls s es store moved.options store.order refl is of own_slot;
      after = is ∙ ap (with_stage v) (sym stage);
      reply = ap (action_reply x s core.pending c) action ∙ ap (λ (m : Table). (effect_of m e).1) (sym (pending_table b.options b.sessions b.history core)) ∙ done.told;
      home = record { home = home; collected = at.collected ∙ ap collected_count parts.phase };
      others = subst (λ (w : StoreView). KeepsOthers v w s) (sym is) (others_at_home v due_calls due_calls s es of);
    }

-- the Book's answer to an event, by the core
pub event_answered : (b : BookView) (core : CoreView) (s : ℕ) (batch : Batch) (c : Call) (answer : Answer) → s ≡ core.session → IsAtHome (table_of b) core → batch.calls ≡ core.pending
    → IsAnswer answer (half_answer (half_of (table_with_batch (table_of b) s batch)) s c (request_of (own_with_batch (table_of b) s batch) c) (kept_births (own_with_batch (table_of b) s batch) c)).1
    → IsAnswer answer (event_answer (history_table b.options b.sessions (with_pending b.history core)) core c)
event_answered b core s batch c answer same home calls has =
    let t = table_of b in
    subst (λ (u : Table). IsAnswer answer (event_answer u core c)) (batch_table b.options b.sessions b.history core batch calls)
    (subst (λ (o : Own). IsAnswer answer (half_answer (half_of (table_with_batch t core.session batch)) core.session c (request_of o c) (kept_births o c)).1) (own_pending t core batch home calls)
    (subst (λ (n : ℕ). IsAnswer answer (half_answer (half_of (table_with_batch t n batch)) n c (request_of (own_with_batch t n batch) c) (kept_births (own_with_batch t n batch) c)).1) same has))

-- an event is a turn
pub event_is_turn : (b a : BookView) (free : FreeSpace) (due_calls : List DueCall) (core next : CoreView) (c : Call) (reply : Reply) → IsEventTurn b a free due_calls core c → core.standing ≡ Some c
    → next ≡ accepted core c (event_answer (history_table b.options b.sessions (with_pending b.history core)) core c)
    → reply ≡ (after_answer core.own c (event_answer (history_table b.options b.sessions (with_pending b.history core)) core c)).1
    → IsTurn (store_of b free due_calls) (store_of a free due_calls) core next (Some reply)
event_is_turn b a free due_calls core next c reply turn standing is told =
    let v = store_of b free due_calls in
    record {
      store = λ d stands. subst (λ (e : Call). store_of a free due_calls ≡ store_after v core e) (one_stands core.standing c d standing stands) turn.after;
      reply = λ d stands. subst (λ (e : Call). Some reply ≡ turn_reply v core e) (one_stands core.standing c d standing stands) (ap (λ (r : Reply). Some r) told ∙ sym turn.reply);
      taken = record {
        session = ap (λ (k : CoreView). k.session) is;
        gather = ap (λ (k : CoreView). k.gather) is;
        pending = ap (λ (k : CoreView). k.pending) is;
        standing = ap (λ (k : CoreView). k.standing) is;
      };
      home = subst (IsAtHomeIn (store_of a free due_calls)) (sym is) turn.home;
      others = turn.others;
    }
