-- A turn in which a promise is asked for.
use Rattle.std.proofs.Common.{◌≡◌, ℕ, ◌-◌, ◌≤◌, ◌<◌, Bool, cond, true, List, [], ◌∷◌, ◌++◌, length, Option, Some, None, refl, sym, ap, subst, ◌∙◌}
use Rattle.std.specs.Prelude.{slice_index_or, slice_set}
use Rattle.std.specs.Option.{IfSome}
use Rattle.sf_types.specs.declared.call.Call.{Call}
use Rattle.sf_types.specs.declared.history.Kind.TheVariants as kind
use Rattle.sf_types.specs.declared.reply.Reply.{Reply}
use Rattle.sf_types.specs.Table.Parts.{Promise, Table, opening_table}
use Rattle.sf_types.specs.declared.options.Options.{Options}
use Rattle.sf_types.specs.Space.Cuts.{cuts}
use Rattle.sf_types.specs.Table.Sessions.{session_of}
use Rattle.sf_types.specs.Orders.Histories.{call_entries, effect_of, entry_of, history_table}
use Rattle.sf_types.specs.Play.Turns.{Promises, action_reply, stage_after, with_entries}
use Rattle.sf_types.specs.Halves.Own.{Own, own_due, own_of}
use Rattle.sf_types.specs.Halves.Asks.{half_of}
use Rattle.sf_types.specs.Halves.Flushes.{NoSpace, half_promise, own_flush, refusal_of}
use Rattle.sf_types.proofs.NumberLemmas.{from_one}
use Rattle.sf_laws.proofs.OwnRunLemmas.{shape_after}
use Rattle.sf_laws.proofs.StageLemmas.{Holds, action_keeps, holds_sound}
use Rattle.sf_block_space.specs.Free.{FreeSpace}
use Rattle.sf_versions.specs.declared.asks.Flush.{Flush}
use Rattle.sf_versions.specs.declared.asks.Batch.{Batch}
use Rattle.sf_versions.specs.declared.asks.Verdict.{Verdict}
use Rattle.sf_versions.specs.declared.asks.Verdict.TheVariants as told_by
use Rattle.sf_versions.specs.Asks.{IsFlush, rule_of_verdict}
use Rattle.sf_store_half.specs.HalfMoves.{HasPrints}
use Rattle.sf_session.specs.declared.need.Need.TheVariants as need
use Rattle.sf_session.specs.declared.phase.Phase.TheVariants.{Promised, Unpromised}
use Rattle.sf_session.specs.Cores.{CoreView, need_of, not_promised, promised}
use Rattle.sf_session.specs.AtHome.{IsAtHome, IsAtHomeAfter, verdict, with_pending}
use Rattle.sf_session.proofs.EventLemmas.{due_behind}
use Rattle.sf_session.proofs.HomeLemmas.{IsBehindPending, behind_pending}
use Rattle.sf_session.proofs.NeedLemmas.{promised_is, reserve_need, unpromised_is}
use Rattle.sf_session.proofs.PromiseHomeLemmas.{IsReserved, granted_done, refused_done}
use Rattle.sf_book.specs.Books.{BookView, table_of}
use Rattle.sf_book.specs.Moves.{IsMoved, own_with_batch, table_with_batch}
use Rattle.sf_plain_store.specs.declared.due_calls.DueCall.{DueCall}
use Rattle.sf_plain_store.specs.Stores.{IsAtHomeIn, StoreView, collected_count, stage_of, with_stage}
use Rattle.sf_plain_store.specs.Turns.{HasTaken, IsTurn, KeepsOthers, next_action, store_after, turn_reply}
use Rattle.sf_plain_store.specs.Inside.Bodies.{IsKept, IsStore, flush_at, store_of}
use Rattle.sf_plain_store.specs.Inside.DueCalls.{due_call_of}
use Rattle.sf_plain_store.specs.Inside.Flushes.{IsFlushOf, flush_to_keep}
use Rattle.sf_plain_store.proofs.EntryTurnLemmas.{AreEntries, due_inside, others_at_home, quiet_collected, store_stands}
use Rattle.sf_plain_store.proofs.EventTurnLemmas.{unpromised_action}
use Rattle.sf_plain_store.proofs.KeptFlushLemmas.{blocks_stay, due_other, due_own, others_entries}
use Rattle.sf_plain_store.proofs.PendingLemmas.{at_call, batch_table, home_moved, moved_here, one_stands, own_pending, pending_history, pending_table}
use Rattle.sf_plain_store.proofs.StoreMoveLemmas.{blocks_collected, moved_store}

-- the flush that is kept from a granted promise on
pub promised_slot : (b : BookView) (core : CoreView) (flush : Flush) (blocks : ℕ) → core.standing ≡ Some flush.ask.call → HasPrints flush → IsFlush b.options core.own flush
    → IsAtHomeAfter b.options b.sessions (with_pending b.history core ++ entry_of core.session kind.Promise flush.ask.call ∷ []) (promised core blocks)
    → IfSome (Some flush) (IsKept b.options (history_table b.options b.sessions (b.history ++ (call_entries core.session core.pending ++ entry_of core.session kind.Promise flush.ask.call ∷ []))) core.session)
promised_slot b core flush blocks standing prints is home =
    let s = core.session in
    let h = with_pending b.history core ++ entry_of s kind.Promise flush.ask.call ∷ [] in
    let u = history_table b.options b.sessions h in
    let has = promised_is (session_of u s).promise [] core.standing (Promised blocks) flush.ask.call (λ other. absurd cc) standing home.home.promised in
    let own : own_of u s ≡ core.own = sym home.home.own in
    let kept : IsKept b.options u s flush = (
      prints,
      subst (λ (o : Option Promise). IfSome o (λ promise. (promise.call ≡ flush.ask.call) × IsFlush b.options (own_of u s) flush)) (sym has.is)
          (has.call, subst (λ (o : Own). IsFlush b.options o flush) (sym own) is),
    ) in
    subst (λ h. IsKept b.options (history_table b.options b.sessions h) s flush) (pending_history b.history core kind.Promise flush.ask.call) kept

-- What a turn does in which a promise is asked for.
pub record IsPromiseTurn (b a : BookView) (free : FreeSpace) (due_calls next : List DueCall) (core after_core : CoreView) (c : Call) (told : Option Reply) : Type 0 where
  pub store : IsStore a free next
  pub after : store_of a free next ≡ store_after (store_of b free due_calls) core c
  pub reply : turn_reply (store_of b free due_calls) core c ≡ told
  pub home : IsAtHomeIn (store_of a free next) after_core
  pub others : KeepsOthers (store_of b free due_calls) (store_of a free next) core.session

pub promise_turn : (b a : BookView) (free : FreeSpace) (due_calls next : List DueCall) (core after_core : CoreView) (c : Call) (told : Option Reply) → IsStore b free due_calls → IsAtHomeIn (store_of b free due_calls) core
    → core.standing ≡ Some c → need_of core ≡ need.Reserve → IsMoved b a (call_entries core.session core.pending ++ entry_of core.session kind.Promise c ∷ []) []
    → IsReserved b.options b.sessions b.history core after_core c told → after_core.session ≡ core.session → collected_count after_core.phase ≡ 0
    → blocks_collected next ≡ blocks_collected due_calls → ((r : ℕ) → 1 ≤ r → (r ≡ core.session → ⊥) → flush_at next r ≡ flush_at due_calls r)
    → IfSome (flush_at next core.session) (IsKept b.options (history_table b.options b.sessions (b.history ++ (call_entries core.session core.pending ++ entry_of core.session kind.Promise c ∷ []))) core.session)
    → IsPromiseTurn b a free due_calls next core after_core c told
promise_turn b a free due_calls next core after_core c told store at standing needs moved reserved session count blocks slots own =
    let v = store_of b free due_calls in
    let x = stage_of v in
    let t = table_of b in
    let s = core.session in
    let e = entry_of s kind.Promise c in
    let es = call_entries s core.pending ++ e ∷ [] in
    let y = with_entries x s es in
    let parts = reserve_need core c standing needs in
    let none = unpromised_is (session_of t s).promise core.pending core.standing core.phase parts.phase at.home.home.promised in
    let behind = behind_pending b.options b.sessions b.history core at.home parts.goes_on none in
    let due = due_behind b.options b.sessions b.history core c behind ∙ parts.due in
    let action = unpromised_action v core c true behind due in
    let stage : stage_after x s core.pending c (next_action v core c) ≡ y = ap (stage_after x s core.pending c) action in
    let before = holds_sound b.options b.sessions x store.sound in
    let holds : Holds b.options b.sessions y = subst (Holds b.options b.sessions) stage (action_keeps b.options b.sessions x s core.pending c before (at_call t core c at.home.home parts.goes_on none)) in
    let is = moved_store b a free due_calls next s es moved none blocks in
    let of : AreEntries v due_calls next s es = record {
      holds = holds;
      entries = λ r apart. others_entries s r core.pending kind.Promise c apart;
      slots = slots;
      collected = λ r low apart. quiet_collected x s r es none;
    } in
    let home = home_moved b.options a.options b.sessions a.sessions (with_pending b.history core ++ e ∷ []) a.history after_core moved.options moved.sessions (moved.history ∙ sym (pending_history b.history core kind.Promise c)) reserved.home in
    record {
      store = store_stands b a free free due_calls next s es store moved.options store.order refl is of own;
      after = is ∙ ap (with_stage v) (sym stage);
      reply = ap (action_reply x s core.pending c) action ∙ ap (λ (m : Table). (effect_of m e).1) (sym (pending_table b.options b.sessions b.history core)) ∙ reserved.reply;
      home = record {
        home = home;
        collected = ap (λ (r : ℕ). length (slice_index_or (blocks_collected next) (r - 1) [])) session ∙ ap (λ (lists : List (List ℕ)). length (slice_index_or lists (s - 1) [])) blocks ∙ at.collected ∙ ap collected_count parts.phase ∙ sym count;
      };
      others = subst (λ (w : StoreView). KeepsOthers v w s) (sym is) (others_at_home v due_calls next s es of);
    }

-- the Book's verdict on a promise, by the core
pub verdict_here : (b : BookView) (core : CoreView) (s : ℕ) (batch : Batch) (c : Call) (v : Verdict) → s ≡ core.session → IsBehindPending b.options b.sessions b.history core → IsAtHome (table_of b) core → batch.calls ≡ core.pending
    → rule_of_verdict v ≡ (half_promise (half_of (table_with_batch (table_of b) s batch)) s c (cuts b.options (own_flush (own_with_batch (table_of b) s batch) c))).1
    → rule_of_verdict v ≡ verdict (history_table b.options b.sessions (with_pending b.history core)) core c
verdict_here b core s batch c v same behind home calls is =
    let t = table_of b in
    let u = history_table b.options b.sessions (with_pending b.history core) in
    let own = own_pending t core batch home calls in
    let table = batch_table b.options b.sessions b.history core batch calls in
    let options : u.options ≡ b.options = (shape_after (opening_table b.options b.sessions) (with_pending b.history core) behind.legal).1 in
    let session : rule_of_verdict v ≡ (half_promise (half_of (table_with_batch t core.session batch)) core.session c (cuts b.options (own_flush (own_with_batch t core.session batch) c))).1 =
    subst (λ (n : ℕ). rule_of_verdict v ≡ (half_promise (half_of (table_with_batch t n batch)) n c (cuts b.options (own_flush (own_with_batch t n batch) c))).1) same is in
    session
    ∙ ap (λ (o : Own). (half_promise (half_of (table_with_batch t core.session batch)) core.session c (cuts b.options (own_flush o c))).1) own
    ∙ ap (λ (m : Table). (half_promise (half_of m) core.session c (cuts b.options (own_flush core.own c))).1) table
    ∙ ap (λ (o : Options). (half_promise (half_of u) core.session c (cuts o (own_flush core.own c))).1) (sym options)

-- a promise is a turn
promise_is_turn : (b a : BookView) (free : FreeSpace) (due_calls next : List DueCall) (core after_core : CoreView) (c : Call) (told : Option Reply) → IsPromiseTurn b a free due_calls next core after_core c told
    → core.standing ≡ Some c → HasTaken core after_core told → IsTurn (store_of b free due_calls) (store_of a free next) core after_core told
promise_is_turn b a free due_calls next core after_core c told turn standing taken =
    let v = store_of b free due_calls in
    record {
      store = λ d stands. subst (λ (e : Call). store_of a free next ≡ store_after v core e) (one_stands core.standing c d standing stands) turn.after;
      reply = λ d stands. subst (λ (e : Call). told ≡ turn_reply v core e) (one_stands core.standing c d standing stands) (sym turn.reply);
      taken = taken;
      home = turn.home;
      others = turn.others;
    }

-- What a turn does in which a promise is asked for, whatever the verdict.
pub record IsReserveTurn (b a : BookView) (free : FreeSpace) (due_calls next : List DueCall) (core after_core : CoreView) (told : Option Reply) : Type 0 where
  pub store : IsStore a free next
  pub turn : IsTurn (store_of b free due_calls) (store_of a free next) core after_core told

pub reserve_turn : (b a : BookView) (free : FreeSpace) (due_calls next : List DueCall) (core after_core : CoreView) (flush : Flush) (v : Verdict) (told : Option Reply) → IsStore b free due_calls → IsAtHomeIn (store_of b free due_calls) core
    → need_of core ≡ need.Reserve → IsFlushOf b.options core flush
    → IsMoved b a (call_entries core.session core.pending ++ entry_of core.session kind.Promise flush.ask.call ∷ []) []
    → (IsBehindPending b.options b.sessions b.history core → rule_of_verdict v ≡ verdict (history_table b.options b.sessions (with_pending b.history core)) core flush.ask.call)
    → next ≡ slice_set due_calls (core.session - 1) (record (due_call_of due_calls core.session) { flush = flush_to_keep v flush })
    → ((blocks : ℕ) → v ≡ told_by.Granted blocks → after_core ≡ promised core blocks) → ((wanted free : ℕ) → v ≡ told_by.NoSpace wanted free → after_core ≡ not_promised core)
    → told ≡ refusal_of (rule_of_verdict v) → IsReserveTurn b a free due_calls next core after_core told
reserve_turn b a free due_calls next core after_core flush v told store at needs of moved decided kept granted refused reply =
    let s = core.session in
    let c = flush.ask.call in
    let t = table_of b in
    let parts = reserve_need core c of.call needs in
    let none = unpromised_is (session_of t s).promise core.pending core.standing core.phase parts.phase at.home.home.promised in
    let behind = behind_pending b.options b.sessions b.history core at.home parts.goes_on none in
    let low = from_one s (length t.sessions) at.home.home.session in
    let inside : s - 1 < length due_calls = due_inside b free due_calls s store at.home.home.session in
    let blocks = ap blocks_collected kept ∙ blocks_stay due_calls s (flush_to_keep v flush) in
    let slots : (r : ℕ) → 1 ≤ r → (r ≡ s → ⊥) → flush_at next r ≡ flush_at due_calls r =
    λ r low_r apart. ap (λ (ds : List DueCall). flush_at ds r) kept ∙ ap (λ (d : DueCall). d.flush) (due_other due_calls s r (record (due_call_of due_calls s) { flush = flush_to_keep v flush }) low low_r apart) in
    let own : flush_at next s ≡ flush_to_keep v flush = ap (λ (ds : List DueCall). flush_at ds s) kept ∙ ap (λ (d : DueCall). d.flush) (due_own due_calls s (record (due_call_of due_calls s) { flush = flush_to_keep v flush }) inside) in
    by_verdict v refl low inside blocks slots own (decided behind)
  where
    by_verdict : (w : Verdict) → v ≡ w → 1 ≤ core.session → core.session - 1 < length due_calls → blocks_collected next ≡ blocks_collected due_calls
        → ((r : ℕ) → 1 ≤ r → (r ≡ core.session → ⊥) → flush_at next r ≡ flush_at due_calls r) → flush_at next core.session ≡ flush_to_keep w flush
        → rule_of_verdict w ≡ verdict (history_table b.options b.sessions (with_pending b.history core)) core flush.ask.call → IsReserveTurn b a free due_calls next core after_core told
    by_verdict (told_by.Granted n) is low inside blocks slots own decided =
        let c = flush.ask.call in
        let done = granted_done b.options b.sessions n b.history core c at.home of.call needs (sym decided) in
        let here : after_core ≡ promised core n = granted n is in
        let nothing : told ≡ None = reply ∙ ap (λ (w : Verdict). refusal_of (rule_of_verdict w)) is in
        let slot = subst (λ (o : Option Flush). IfSome o (IsKept b.options (history_table b.options b.sessions (b.history ++ (call_entries core.session core.pending ++ entry_of core.session kind.Promise c ∷ []))) core.session)) (sym own)
        (promised_slot b core flush n of.call of.prints of.flush_is done.home) in
        let turn = promise_turn b a free due_calls next core (promised core n) c None store at of.call needs moved done refl refl blocks slots slot in
        record {
          store = turn.store;
          turn = subst (λ (o : Option Reply). IsTurn (store_of b free due_calls) (store_of a free next) core after_core o) (sym nothing)
              (subst (λ (k : CoreView). IsTurn (store_of b free due_calls) (store_of a free next) core k None) (sym here)
              (promise_is_turn b a free due_calls next core (promised core n) c None turn of.call (record { session = refl; gather = refl; pending = refl; standing = refl })));
        }
    by_verdict (told_by.NoSpace wanted left) is low inside blocks slots own decided =
        let c = flush.ask.call in
        let done = refused_done b.options b.sessions wanted left b.history core c at.home of.call needs (sym decided) in
        let here : after_core ≡ not_promised core = refused wanted left is in
        let answer : told ≡ refusal_of (NoSpace wanted left) = reply ∙ ap (λ (w : Verdict). refusal_of (rule_of_verdict w)) is in
        let slot = subst (λ (o : Option Flush). IfSome o (IsKept b.options (history_table b.options b.sessions (b.history ++ (call_entries core.session core.pending ++ entry_of core.session kind.Promise c ∷ []))) core.session)) (sym own) tt in
        let turn = promise_turn b a free due_calls next core (not_promised core) c (refusal_of (NoSpace wanted left)) store at of.call needs moved done refl refl blocks slots slot in
        record {
          store = turn.store;
          turn = subst (λ (o : Option Reply). IsTurn (store_of b free due_calls) (store_of a free next) core after_core o) (sym answer)
              (subst (λ (k : CoreView). IsTurn (store_of b free due_calls) (store_of a free next) core k (refusal_of (NoSpace wanted left))) (sym here)
              (promise_is_turn b a free due_calls next core (not_promised core) c (refusal_of (NoSpace wanted left)) turn of.call (record { session = refl; gather = refl; pending = refl; standing = refl })));
        }

-- What a promise asks of its store.
pub record CanReserve (b : BookView) (s : ℕ) (batch : Batch) (flush : Flush) : Type 0 where
  pub due : own_due b.options.gather (own_with_batch (table_of b) s batch) flush.ask.call ≡ true
  pub flush_is : IsFlush b.options (own_with_batch (table_of b) s batch) flush

pub can_reserve : (b : BookView) (free : FreeSpace) (due_calls : List DueCall) (core : CoreView) (s : ℕ) (batch : Batch) (flush : Flush) → IsStore b free due_calls → IsAtHomeIn (store_of b free due_calls) core → need_of core ≡ need.Reserve → s ≡ core.session
    → batch.calls ≡ core.pending → IsFlushOf b.options core flush → CanReserve b s batch flush
can_reserve b free due_calls core s batch flush store at needs same calls of =
    let t = table_of b in
    let c = flush.ask.call in
    let parts = reserve_need core c of.call needs in
    let before = holds_sound b.options b.sessions (stage_of (store_of b free due_calls)) store.sound in
    let gather : core.gather ≡ b.options.gather = at.home.home.gather ∙ ap (λ (o : Options). o.gather) before.same in
    let own = own_pending t core batch at.home.home calls in
    let here : CanReserve b core.session batch flush = record {
      due = ap (λ (o : Own). own_due b.options.gather o c) own ∙ ap (λ g. own_due g core.own c) (sym gather) ∙ parts.due;
      flush_is = subst (λ (o : Own). IsFlush b.options o flush) (sym own) of.flush_is;
    } in
    subst (λ (n : ℕ). CanReserve b n batch flush) (sym same) here

-- the same turn, by the number that the core tells of its session
pub reserve_turn_of : (b a : BookView) (free : FreeSpace) (due_calls next : List DueCall) (core after_core : CoreView) (batch : Batch) (flush : Flush) (v : Verdict) (told : Option Reply) (s : ℕ) (kept : Option Flush)
    → IsStore b free due_calls → IsAtHomeIn (store_of b free due_calls) core → need_of core ≡ need.Reserve → s ≡ core.session → batch.calls ≡ core.pending → IsFlushOf b.options core flush
    → IsMoved b a (call_entries s batch.calls ++ entry_of s kind.Promise flush.ask.call ∷ []) []
    → rule_of_verdict v ≡ (half_promise (half_of (table_with_batch (table_of b) s batch)) s flush.ask.call (cuts b.options (own_flush (own_with_batch (table_of b) s batch) flush.ask.call))).1
    → kept ≡ flush_to_keep v flush → next ≡ slice_set due_calls (s - 1) (record (due_call_of due_calls s) { flush = kept })
    → ((blocks : ℕ) → v ≡ told_by.Granted blocks → after_core ≡ promised core blocks) → ((wanted free : ℕ) → v ≡ told_by.NoSpace wanted free → after_core ≡ not_promised core)
    → told ≡ refusal_of (rule_of_verdict v) → IsReserveTurn b a free due_calls next core after_core told
reserve_turn_of b a free due_calls next core after_core batch flush v told s kept store at needs same calls of moved decided keeps set granted refused reply =
    reserve_turn b a free due_calls next core after_core flush v told store at needs of
    (moved_here b a core s batch.calls kind.Promise flush.ask.call [] same calls moved)
    (λ behind. verdict_here b core s batch flush.ask.call v same behind at.home.home calls decided)
    (subst (λ (o : Option Flush). next ≡ slice_set due_calls (core.session - 1) (record (due_call_of due_calls core.session) { flush = o })) keeps
    (subst (λ (n : ℕ). next ≡ slice_set due_calls (n - 1) (record (due_call_of due_calls n) { flush = kept })) same set))
    granted refused reply
