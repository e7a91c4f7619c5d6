-- What a publication asks, and the turn that it is.
use Rattle.std.proofs.Common.{◌≡◌, ℕ, ◌+◌, ◌-◌, ◌≤◌, ◌<◌, ◌^◌, Bool, cond, true, false, IsTrue, List, [], ◌∷◌, ◌++◌, length, drop, Option, Some, None, refl, sym, ap, subst, ◌∙◌, arith}
use Rattle.std.specs.Prelude.{◌==◌, All, Err, Ok, OnErr, Result, slice_set}
use Rattle.std.specs.Option.{IfSome, IsSome, option_map_or}
use Rattle.std.proofs.lemmas.List.{length-drop}
use Rattle.sf_types.specs.declared.call.Call.{Call}
use Rattle.sf_types.specs.declared.history.Kind.TheVariants as kind
use Rattle.sf_types.specs.declared.options.Options.{Options}
use Rattle.sf_types.specs.declared.reply.Reply.{Reply}
use Rattle.sf_types.specs.declared.run.Run.{Run}
use Rattle.sf_types.specs.declared.limits.TheConstants.{STORE_BLOCKS}
use Rattle.sf_types.specs.Table.Parts.{Promise, Table}
use Rattle.sf_types.specs.Table.Sessions.{has_session, session_of}
use Rattle.sf_types.specs.Space.BlockRuns.{blocks_in}
use Rattle.sf_types.specs.Space.Cuts.{cuts}
use Rattle.sf_types.specs.Space.Placings.{all_blocks}
use Rattle.sf_types.specs.Space.Use.{blocks_of_births}
use Rattle.sf_types.specs.Play.Blocks.{collected_by, new_births, unused_blocks, with_free_blocks}
use Rattle.sf_types.specs.Halves.Own.{Own, own_after, own_of}
use Rattle.sf_types.specs.Orders.Histories.{entry_of}
use Rattle.sf_types.specs.Rooms.{Roomy}
use Rattle.sf_types.specs.Halves.Asks as rule
use Rattle.sf_types.specs.Halves.Asks.{after_answer, half_of, kept_births, request_of}
use Rattle.sf_types.specs.Halves.Flushes.{half_publish, own_flush}
use Rattle.sf_types.proofs.NumberLemmas.{from_one, not_same, same_number}
use Rattle.sf_laws.specs.Stages.{IsSoundStage}
use Rattle.sf_laws.proofs.StageLemmas.{Holds, holds_sound}
use Rattle.sf_laws.proofs.BlockSumLemmas.{count_length}
use Rattle.sf_block_space.specs.Free.{AreFreeRuns, AreOut, FreeSpace, Gains, filled_run_count}
use Rattle.sf_block_space.proofs.FilledRunLemmas.{filled_by_blocks}
use Rattle.sf_versions.specs.declared.asks.Answer.{Answer}
use Rattle.sf_versions.specs.declared.asks.Flush.{Flush}
use Rattle.sf_versions.specs.Asks.{IsAnswer, IsFlush}
use Rattle.sf_session.specs.declared.need.Need.{Need}
use Rattle.sf_session.specs.declared.need.Need.TheVariants as need
use Rattle.sf_session.specs.Cores.{CoreView, accepted, need_of, need_of_call}
use Rattle.sf_session.specs.AtHome.{IsAtHome, publication_answer}
use Rattle.sf_book.specs.Books.{BookView, table_of}
use Rattle.sf_book.specs.Moves.{AreAway, IsMoved, Stands}
use Rattle.sf_plain_store.specs.declared.due_calls.DueCall.{DueCall}
use Rattle.sf_plain_store.specs.Stores.{IsAtHomeIn, StoreView, collected_count, stage_of}
use Rattle.sf_plain_store.specs.Turns.{IsTurn, store_after, turn_reply}
use Rattle.sf_plain_store.specs.Inside.Bodies.{IsKept, IsStore, flush_at, store_of}
use Rattle.sf_plain_store.specs.Inside.DueCalls.{due_call_of}
use Rattle.sf_plain_store.specs.Inside.Flushes.{IsFlushOf}
use Rattle.sf_plain_store.proofs.BlockShareLemmas.{collected_beside_free, collected_beside_places, few_collected, fit_apart, fit_below, fit_once, fit_out}
use Rattle.sf_plain_store.proofs.EntryTurnLemmas.{due_inside}
use Rattle.sf_plain_store.proofs.FreeBlockLemmas.{free_again}
use Rattle.sf_plain_store.proofs.KeptFlushLemmas.{blocks_set, blocks_stay, collected_here, due_other, due_own}
use Rattle.sf_plain_store.proofs.PendingLemmas.{one_stands}
use Rattle.sf_plain_store.proofs.PromisedNeedLemmas.{HasBlocksOf, publishes}
use Rattle.sf_plain_store.proofs.PublishTurnLemmas.{IsPublishTurn, publish_turn}
use Rattle.sf_plain_store.proofs.StoreMoveLemmas.{blocks_collected}

-- A call stands on a core.
pub record HasCall (core : CoreView) : Type 0 where
  pub call : Call
  pub is : core.standing ≡ Some call

-- a core that needs a step of the store has a call
pub has_call : (core : CoreView) (n : Need) → need_of core ≡ n → (n ≡ need.Idle → ⊥) → (n ≡ need.Ended → ⊥) → HasCall core
has_call core n needs busy alive = by_standing core.standing refl core.own.part.has_ended refl
  where
    by_standing : (o : Option Call) → core.standing ≡ o → (ended : Bool) → core.own.part.has_ended ≡ ended → HasCall core
    by_standing (Some c) is ended e = record { call = c; is = is }
    by_standing None is true e = absurd (alive (sym needs ∙ ap (λ b. cond b need.Ended (option_map_or (need_of_call core.gather core.own core.phase) core.standing need.Idle)) e))
    by_standing None is false e = absurd (busy (sym needs ∙ ap (λ b. cond b need.Ended (option_map_or (need_of_call core.gather core.own core.phase) core.standing need.Idle)) e
        ∙ ap (λ (o : Option Call). option_map_or (need_of_call core.gather core.own core.phase) o need.Idle) is))

-- the own part of a core without pending calls
own_here : (t : Table) (core : CoreView) → IsAtHome t core → core.pending ≡ [] → own_of t core.session ≡ core.own
own_here t core home none = ap (own_after (own_of t core.session)) (sym none) ∙ sym home.own

-- a kept flush is that of the call that stands
pub kept_is_flush : (b : BookView) (free : FreeSpace) (due_calls : List DueCall) (core : CoreView) (c : Call) → IsStore b free due_calls → IsAtHomeIn (store_of b free due_calls) core → core.standing ≡ Some c → need_of core ≡ need.Publish
    → IfSome (flush_at due_calls core.session) (IsFlushOf b.options core)
kept_is_flush b free due_calls core c store at standing needs =
    let t = table_of b in
    let s = core.session in
    let has = publishes (session_of t s).promise core c standing needs at.home.home.promised in
    go has (flush_at due_calls s) (store.flushes s at.home.home.session)
  where
    go : HasBlocksOf (session_of (table_of b) core.session).promise core c (collected_count core.phase) → (o : Option Flush) → IfSome o (IsKept b.options (table_of b) core.session) → IfSome o (IsFlushOf b.options core)
    go has None kept = tt
    go has (Some flush) kept =
        let both = subst (λ (o : Option Promise). IfSome o (λ promise. (promise.call ≡ flush.ask.call) × IsFlush b.options (own_of (table_of b) core.session) flush)) has.is kept.1 in
        record {
          call = standing ∙ ap (λ (d : Call). Some d) (sym has.call ∙ both.0);
          prints = kept.0;
          flush_is = subst (λ (o : Own). IsFlush b.options o flush) (own_here (table_of b) core at.home.home has.none) both.1;
        }

-- What a publication asks of its store.
pub record CanPublish (b : BookView) (free : FreeSpace) (due_calls : List DueCall) (core : CoreView) (flush : Flush) : Type 0 where
  pub promise : Stands (table_of b) core.session flush.ask.call (length (collected_by (store_of b free due_calls).space core.session))
  pub flush_is : IsFlush b.options (own_of (table_of b) core.session) flush
  pub away : AreAway b (collected_by (store_of b free due_calls).space core.session)
  pub few : length (collected_by (store_of b free due_calls).space core.session) < 2 ^ 64

pub can_publish : (b : BookView) (free : FreeSpace) (due_calls : List DueCall) (core : CoreView) (flush : Flush) → IsStore b free due_calls → IsAtHomeIn (store_of b free due_calls) core → need_of core ≡ need.Publish → IsFlushOf b.options core flush
    → CanPublish b free due_calls core flush
can_publish b free due_calls core flush store at needs of =
    let v = store_of b free due_calls in
    let t = table_of b in
    let s = core.session in
    let c = flush.ask.call in
    let given = collected_by v.space s in
    let has = publishes (session_of t s).promise core c of.call needs at.home.home.promised in
    let before = holds_sound b.options b.sessions (stage_of v) store.sound in
    let fit = collected_beside_places t v.space before.has s in
    let others = all_blocks b.places ++ b.parked in
    let size : t.options.capacity ≡ b.options.capacity = ap (λ (o : Options). o.capacity) before.same in
    let few : length given ≤ t.options.capacity = few_collected t v.space before.has s in
    let high = store.options.capacity_high in
    record {
      promise = record {
        session = at.home.home.session;
        some = subst (λ (o : Option Promise). IsSome o) (sym has.is) refl;
        promised = subst (λ (o : Option Promise). IfSome o (λ promise. (promise.call ≡ c) × (promise.blocks ≡ length given))) (sym has.is) (has.call, has.size ∙ sym at.collected);
      };
      flush_is = subst (λ (o : Own). IsFlush b.options o flush) (sym (own_here t core at.home.home has.none)) of.flush_is;
      away = record {
        below = subst (λ n. All (λ block. block < n) given) size (fit_below t.options.capacity given others fit);
        once = fit_once t.options.capacity given others fit;
        apart = fit_apart t.options.capacity given others fit;
      };
      few = omega (arith, few, size, high);
    }

-- the Book's answer to a publication, by the core
pub publication_here : (b : BookView) (free : FreeSpace) (due_calls : List DueCall) (core : CoreView) (s : ℕ) (c : Call) (answer : Answer) → s ≡ core.session → IsStore b free due_calls → IsAtHomeIn (store_of b free due_calls) core
    → core.standing ≡ Some c → need_of core ≡ need.Publish
    → IsAnswer answer (half_publish (half_of (table_of b)) s (request_of (own_of (table_of b) s) c) (cuts b.options (own_flush (own_of (table_of b) s) c)) (kept_births (own_of (table_of b) s) c)).1
    → IsAnswer answer (publication_answer (table_of b) core c)
publication_here b free due_calls core s c answer same store at standing needs is =
    let t = table_of b in
    let has = publishes (session_of t core.session).promise core c standing needs at.home.home.promised in
    let before = holds_sound b.options b.sessions (stage_of (store_of b free due_calls)) store.sound in
    subst (λ (o : Options). IsAnswer answer (half_publish (half_of t) core.session (request_of core.own c) (cuts o (own_flush core.own c)) (kept_births core.own c)).1) (sym before.same)
    (subst (λ (o : Own). IsAnswer answer (half_publish (half_of t) core.session (request_of o c) (cuts b.options (own_flush o c)) (kept_births o c)).1) (own_here t core at.home.home has.none)
    (subst (λ (n : ℕ). IsAnswer answer (half_publish (half_of t) n (request_of (own_of t n) c) (cuts b.options (own_flush (own_of t n) c)) (kept_births (own_of t n) c)).1) same is))

-- the unused blocks come back
pub record ComesBack (b : BookView) (free : FreeSpace) (due_calls : List DueCall) (core : CoreView) (unused : List Run) (spare : ℕ) : Type 0 where
  pub out : AreOut free (blocks_in unused)
  pub room : filled_run_count unused ≤ spare

pub comes_back : (b a : BookView) (free : FreeSpace) (due_calls : List DueCall) (core : CoreView) (unused : List Run) (spare : ℕ) → IsStore b free due_calls
    → blocks_in unused ≡ unused_blocks (table_of b) (table_of a) (collected_by (store_of b free due_calls).space core.session) → length (collected_by (store_of b free due_calls).space core.session) ≤ spare
    → ComesBack b free due_calls core unused spare
comes_back b a free due_calls core unused spare store left enough =
    let v = store_of b free due_calls in
    let t = table_of b in
    let given = collected_by v.space core.session in
    let before = holds_sound b.options b.sessions (stage_of v) store.sound in
    let size : t.options.capacity ≡ free.capacity = ap (λ (o : Options). o.capacity) before.same ∙ sym store.capacity in
    let used = blocks_of_births (table_of a).contents (new_births t (table_of a)) in
    record {
      out = subst (AreOut free) (sym left) (subst (λ n. AreOut (record { capacity = n; runs = free.runs }) (drop used given)) size (fit_out t.options.capacity free.runs (drop used given) (collected_beside_free t v.space before.has core.session used)));
      room = omega (arith, filled_by_blocks unused, ap (λ (bs : List ℕ). length bs) left, length-drop used given, enough);
    }

-- What is kept once a session's flush was taken.
abbrev pub unflushed : List DueCall → ℕ → List DueCall
unflushed due_calls s = slice_set due_calls (s - 1) (record (due_call_of due_calls s) { flush = None })

pub unflushed_blocks : (due_calls : List DueCall) (s : ℕ) → blocks_collected (unflushed due_calls s) ≡ blocks_collected due_calls
unflushed_blocks due_calls s = blocks_stay due_calls s None

module _ (due_calls : List DueCall) (s : ℕ) (low : 1 ≤ s) (inside : s - 1 < length due_calls) where
  pub unflushed_own : flush_at (unflushed due_calls s) s ≡ None
  unflushed_own = ap (λ (d : DueCall). d.flush) (due_own due_calls s (record (due_call_of due_calls s) { flush = None }) inside)

  pub unflushed_other : (r : ℕ) → 1 ≤ r → (r ≡ s → ⊥) → flush_at (unflushed due_calls s) r ≡ flush_at due_calls r
  unflushed_other r low_r apart = ap (λ (d : DueCall). d.flush) (due_other due_calls s r (record (due_call_of due_calls s) { flush = None }) low low_r apart)

pub unflushed_store : (b : BookView) (free : FreeSpace) (due_calls : List DueCall) (s : ℕ) → store_of b free (unflushed due_calls s) ≡ store_of b free due_calls
unflushed_store b free due_calls s = ap (λ (lists : List (List ℕ)). record (store_of b free due_calls) { space = record (store_of b free due_calls).space { collected = lists } }) (unflushed_blocks due_calls s)

-- a store without a session's flush
pub without_flush : (b : BookView) (free : FreeSpace) (due_calls : List DueCall) (s : ℕ) → IsTrue (has_session (table_of b) s) → IsStore b free due_calls → IsStore b free (unflushed due_calls s)
without_flush b free due_calls s there store =
    let t = table_of b in
    let low = from_one s (length t.sessions) there in
    let inside = due_inside b free due_calls s store there in
    let same = unflushed_store b free due_calls s in
    record {
      options = store.options;
      order = store.order;
      capacity = store.capacity;
      sound = subst (λ (w : StoreView). IsSoundStage b.options b.sessions (stage_of w)) (sym same) store.sound;
      flushes = λ r there_r. elim (r == s) as (λ k. (r == s) ≡ k → IfSome (flush_at (unflushed due_calls s) r) (IsKept b.options t r)) [
        | true ↦ λ is. subst (λ (n : ℕ). IfSome (flush_at (unflushed due_calls s) n) (IsKept b.options t n)) (sym (same_number r s is)) (subst (λ o. IfSome o (IsKept b.options t s)) (sym (unflushed_own due_calls s low inside)) tt)
        | false ↦ λ is. subst (λ o. IfSome o (IsKept b.options t r)) (sym (unflushed_other due_calls s low inside r (from_one r (length t.sessions) there_r) (not_same r s is))) (store.flushes r there_r)
      ] refl;
    }

-- a publication is a turn
pub publish_is_turn : (b a : BookView) (free next_free : FreeSpace) (due_calls next : List DueCall) (core after_core : CoreView) (c : Call) (reply : Reply) → IsPublishTurn b a free next_free due_calls next core c → core.standing ≡ Some c
    → after_core ≡ accepted core c (publication_answer (table_of b) core c) → reply ≡ (after_answer core.own c (publication_answer (table_of b) core c)).1
    → IsTurn (store_of b free due_calls) (store_of a next_free next) core after_core (Some reply)
publish_is_turn b a free next_free due_calls next core after_core c reply turn standing is told =
    let v = store_of b free due_calls in
    record {
      store = λ d stands. subst (λ (e : Call). store_of a next_free next ≡ store_after v core e) (one_stands core.standing c d standing stands) turn.after;
      reply = λ d stands. subst (λ (e : Call). Some reply ≡ turn_reply v core e) (one_stands core.standing c d standing stands) (ap (λ (r : Reply). Some r) told ∙ sym turn.reply);
      taken = record {
        session = ap (λ (k : CoreView). k.session) is;
        gather = ap (λ (k : CoreView). k.gather) is;
        pending = ap (λ (k : CoreView). k.pending) is;
        standing = ap (λ (k : CoreView). k.standing) is;
      };
      home = subst (IsAtHomeIn (store_of a next_free next)) (sym is) turn.home;
      others = turn.others;
    }

-- What a publication does.
pub record IsPublication (b a : BookView) (free next_free : FreeSpace) (due_calls next : List DueCall) (core after_core : CoreView) (reply : Reply) : Type 0 where
  pub store : IsStore a next_free next
  pub turn : IsTurn (store_of b free due_calls) (store_of a next_free next) core after_core (Some reply)

pub publication : (b a : BookView) (free next_free : FreeSpace) (due_calls next : List DueCall) (core after_core : CoreView) (flush : Flush) (answer : Answer) (reply : Reply) (s : ℕ) (runs unused : List Run) (none : Roomy (List Run))
    → IsStore b free due_calls → IsAtHomeIn (store_of b free due_calls) core → need_of core ≡ need.Publish → IsFlushOf b.options core flush → s ≡ core.session → blocks_in runs ≡ collected_by (store_of b free due_calls).space core.session
    → IsMoved b a (entry_of s kind.Call flush.ask.call ∷ []) (blocks_in runs)
    → IsAnswer answer (half_publish (half_of (table_of b)) s (request_of (own_of (table_of b) s) flush.ask.call) (cuts b.options (own_flush (own_of (table_of b) s) flush.ask.call)) (kept_births (own_of (table_of b) s) flush.ask.call)).1
    → blocks_in unused ≡ unused_blocks (table_of b) (table_of a) (blocks_in runs) → AreFreeRuns next_free.capacity next_free.runs → next_free.capacity ≡ free.capacity → Gains free.runs next_free.runs unused
    → next ≡ slice_set due_calls (s - 1) (record (due_call_of due_calls s) { blocks = none }) → none.held ≡ []
    → ((c : Call) (told : rule.Answer) → core.standing ≡ Some c → IsAnswer answer told → after_core ≡ accepted core c told) → ((c : Call) (told : rule.Answer) → core.standing ≡ Some c → IsAnswer answer told → reply ≡ (after_answer core.own c told).1)
    → IsPublication b a free next_free due_calls next core after_core reply
publication b a free next_free due_calls next core after_core flush answer reply s runs unused none store at needs of same collected moved answered left order capacity gains set empty accepts replies =
    let c = flush.ask.call in
    let t = table_of b in
    let r = core.session in
    let v = store_of b free due_calls in
    let given = collected_by v.space r in
    let due : DueCall = record (due_call_of due_calls r) { blocks = none } in
    let here : next ≡ slice_set due_calls (r - 1) due = subst (λ (n : ℕ). next ≡ slice_set due_calls (n - 1) (record (due_call_of due_calls n) { blocks = none })) same set in
    let low = from_one r (length t.sessions) at.home.home.session in
    let inside = due_inside b free due_calls r store at.home.home.session in
    let moved_r : IsMoved b a (entry_of r kind.Call c ∷ []) given = subst (λ (bs : List ℕ). IsMoved b a (entry_of r kind.Call c ∷ []) bs) collected (subst (λ (n : ℕ). IsMoved b a (entry_of n kind.Call c ∷ []) (blocks_in runs)) same moved) in
    let freed = free_again next_free.capacity free.runs next_free.runs unused order gains ∙ ap (with_free_blocks (blocks_in free.runs)) (left ∙ ap (unused_blocks t (table_of a)) collected) in
    let blocks = ap blocks_collected here ∙ blocks_set due_calls (r - 1) due ∙ ap (λ (xs : List Run). slice_set (blocks_collected due_calls) (r - 1) (blocks_in xs)) empty in
    let slots : (n : ℕ) → 1 ≤ n → (n ≡ r → ⊥) → flush_at next n ≡ flush_at due_calls n = λ n low_n apart. ap (λ (ds : List DueCall). flush_at ds n) here ∙ ap (λ (d : DueCall). d.flush) (due_other due_calls r n due low low_n apart) in
    let kept : flush_at next r ≡ flush_at due_calls r = ap (λ (ds : List DueCall). flush_at ds r) here ∙ ap (λ (d : DueCall). d.flush) (due_own due_calls r due inside) in
    let turn = publish_turn b a free next_free due_calls next core c store at of.call needs moved_r order capacity freed blocks slots kept in
    let is = publication_here b free due_calls core s c answer same store at of.call needs answered in
    record {
      store = turn.store;
      turn = publish_is_turn b a free next_free due_calls next core after_core c reply turn of.call (accepts c (publication_answer t core c) of.call is) (replies c (publication_answer t core c) of.call is);
    }

-- what holds anyway holds of a refusal
pub on_err : {R E : Type 0} (P : Type 0) (result : Result R E) → P → OnErr result P
on_err P (Ok r) is = tt
on_err P (Err e) is = is
