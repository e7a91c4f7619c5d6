-- The turn that a collection is.
use Rattle.std.proofs.Common.{◌≡◌, ℕ, ◌+◌, ◌-◌, ◌≤◌, ◌<◌, Bool, true, false, not, IsTrue, List, [], ◌∷◌, length, Option, Some, None, refl, sym, ap, subst, ◌∙◌, arith}
use Rattle.std.specs.Prelude.{◌==◌, filter, slice_set}
use Rattle.sf_types.specs.declared.call.Call.{Call}
use Rattle.sf_types.specs.declared.options.Options.{Options}
use Rattle.sf_types.specs.declared.reply.Reply.{Reply}
use Rattle.sf_types.specs.declared.run.Run.{Run}
use Rattle.sf_types.specs.Table.Sessions.{has_session}
use Rattle.sf_types.specs.Space.BlockRuns.{blocks_in}
use Rattle.sf_types.specs.Space.Grants.{granted_blocks, granted_runs}
use Rattle.sf_types.specs.Play.Blocks.{after_reclaim, is_among}
use Rattle.sf_types.specs.Rooms.{Roomy}
use Rattle.sf_types.proofs.NumberLemmas.{from_one, not_same, same_number}
use Rattle.sf_laws.proofs.StageLemmas.{holds_sound}
use Rattle.sf_block_space.specs.Free.{AreFreeRuns, AreOut, FreeSpace, Gains}
use Rattle.sf_block_space.proofs.GrantRunLemmas.{free-maximal}
use Rattle.sf_session.specs.declared.need.Need.TheVariants as need
use Rattle.sf_session.specs.Cores.{CoreView, collected, need_of}
use Rattle.sf_book.specs.Books.{BookView}
use Rattle.sf_plain_store.specs.declared.due_calls.DueCall.{DueCall}
use Rattle.sf_plain_store.specs.Stores.{IsAtHomeIn, StoreView, stage_of}
use Rattle.sf_plain_store.specs.Turns.{IsTurn, store_after, store_after_reclaim, turn_reply}
use Rattle.sf_plain_store.specs.Inside.Bodies.{IsStore, flush_at, store_of}
use Rattle.sf_plain_store.specs.Inside.DueCalls.{due_call_of}
use Rattle.sf_plain_store.proofs.CollectTurnLemmas.{IsCollectTurn, IsCollecting, collect_turn, collecting}
use Rattle.sf_plain_store.proofs.EntryTurnLemmas.{due_inside}
use Rattle.sf_plain_store.proofs.FreeBlockLemmas.{free_left}
use Rattle.sf_plain_store.proofs.KeptFlushLemmas.{blocks_set, due_other, due_own}
use Rattle.sf_plain_store.proofs.PendingLemmas.{one_stands}
use Rattle.sf_plain_store.proofs.PublishStepLemmas.{has_call}
use Rattle.sf_plain_store.proofs.StoreMoveLemmas.{blocks_collected}

-- What is known before the blocks are granted.
pub record CanCollect (v : StoreView) (core : CoreView) (blocks : ℕ) : Type 0 where
  pub call : Call
  pub standing : core.standing ≡ Some call
  pub is : IsCollecting v core call blocks

pub can_collect : (b : BookView) (free : FreeSpace) (due_calls : List DueCall) (core : CoreView) (blocks : ℕ) → IsStore b free due_calls → IsAtHomeIn (store_of b free due_calls) core → need_of core ≡ need.Collect blocks
    → CanCollect (store_of b free due_calls) core blocks
can_collect b free due_calls core blocks store at needs =
    let has = has_call core (need.Collect blocks) needs (λ same. absurd cc) (λ same. absurd cc) in
    record {
      call = has.call;
      standing = has.is;
      is = collecting (store_of b free due_calls) core has.call blocks (holds_sound b.options b.sessions (stage_of (store_of b free due_calls)) store.sound) at has.is needs;
    }

-- enough blocks are free once parked ones are
pub enough_free : (v : StoreView) (core : CoreView) (blocks : ℕ) (b : BookView) (free : FreeSpace) (due_calls : List DueCall) → CanCollect v core blocks → store_of b free due_calls ≡ store_after_reclaim (blocks - length v.space.free) v
    → blocks ≤ length (blocks_in free.runs)
enough_free v core blocks b free due_calls can is = subst (λ (bs : List ℕ). blocks ≤ length bs) (sym (ap (λ (w : StoreView). w.space.free) is)) can.is.enough

-- What a collection does.
pub record IsCollection (v : StoreView) (b : BookView) (next_free : FreeSpace) (next : List DueCall) (core after_core : CoreView) : Type 0 where
  pub store : IsStore b next_free next
  pub turn : IsTurn v (store_of b next_free next) core after_core None

pub collection : (v : StoreView) (b : BookView) (free next_free : FreeSpace) (due_calls next : List DueCall) (core after_core : CoreView) (blocks : ℕ) (runs : Roomy (List Run)) → IsAtHomeIn v core → need_of core ≡ need.Collect blocks
    → CanCollect v core blocks → IsStore b free due_calls → store_of b free due_calls ≡ store_after_reclaim (blocks - length v.space.free) v
    → runs.held ≡ granted_runs free.runs blocks → AreFreeRuns next_free.capacity next_free.runs → next_free.capacity ≡ free.capacity → Gains next_free.runs free.runs runs.held → AreOut next_free (blocks_in runs.held)
    → next ≡ slice_set due_calls (core.session - 1) (record (due_call_of due_calls core.session) { blocks = runs }) → after_core ≡ collected core blocks
    → IsCollection v b next_free next core after_core
collection v b free next_free due_calls next core after_core blocks runs at needs can store reclaimed granted order capacity gains out kept is =
    let s = core.session in
    let c = can.call in
    let w = store_of b free due_calls in
    let there = subst (λ (z : StoreView). IsTrue (has_session (stage_of z).table s)) (sym reclaimed) at.home.home.session in
    let low = from_one s (length (stage_of w).table.sessions) there in
    let inside = due_inside b free due_calls s store there in
    let due : DueCall = record (due_call_of due_calls s) { blocks = runs } in
    let got : blocks_in runs.held ≡ granted_blocks (blocks_in free.runs) blocks = ap blocks_in granted ∙ ap (λ (xs : List Run). blocks_in (granted_runs xs blocks)) (sym (free-maximal free.capacity free.runs store.order)) in
    let left = free_left next_free.capacity next_free.runs free.runs runs.held order (subst (λ n. AreFreeRuns n free.runs) (sym capacity) store.order) gains out
    ∙ ap (λ (bs : List ℕ). filter (λ block. not (is_among bs block)) (blocks_in free.runs)) got in
    let taken : blocks_collected next ≡ slice_set (blocks_collected due_calls) (s - 1) (granted_blocks (blocks_in free.runs) blocks) =
    ap blocks_collected kept ∙ blocks_set due_calls (s - 1) due ∙ ap (slice_set (blocks_collected due_calls) (s - 1)) got in
    let slots : (r : ℕ) → 1 ≤ r → flush_at next r ≡ flush_at due_calls r = λ r low_r. ap (λ (ds : List DueCall). flush_at ds r) kept ∙
    elim (r == s) as (λ k. (r == s) ≡ k → flush_at (slice_set due_calls (s - 1) due) r ≡ flush_at due_calls r) [
      | true ↦ λ same. subst (λ n. flush_at (slice_set due_calls (s - 1) due) n ≡ flush_at due_calls n) (sym (same_number r s same)) (ap (λ (d : DueCall). d.flush) (due_own due_calls s due inside))
      | false ↦ λ apart. ap (λ (d : DueCall). d.flush) (due_other due_calls s r due low low_r (not_same r s apart))
    ] refl in
    let turn = collect_turn v b free next_free due_calls next core c blocks at needs can.is store reclaimed order capacity left taken slots in
    record {
      store = turn.store;
      turn = record {
        store = λ d stands. subst (λ (e : Call). store_of b next_free next ≡ store_after v core e) (one_stands core.standing c d can.standing stands) turn.after;
        reply = λ d stands. subst (λ (e : Call). None ≡ turn_reply v core e) (one_stands core.standing c d can.standing stands) (sym turn.reply);
        taken = record {
          session = ap (λ (k : CoreView). k.session) is;
          gather = ap (λ (k : CoreView). k.gather) is;
          pending = ap (λ (k : CoreView). k.pending) is ∙ can.is.none;
          standing = ap (λ (k : CoreView). k.standing) is;
        };
        home = subst (IsAtHomeIn (store_of b next_free next)) (sym is) turn.home;
        others = turn.others;
      };
    }

-- the same, by the number that the core tells of its session
pub collection_of : (v : StoreView) (b : BookView) (free next_free : FreeSpace) (due_calls next : List DueCall) (core after_core : CoreView) (blocks : ℕ) (runs : Roomy (List Run)) (s : ℕ) → s ≡ core.session → IsAtHomeIn v core → need_of core ≡ need.Collect blocks
    → CanCollect v core blocks → IsStore b free due_calls → store_of b free due_calls ≡ store_after_reclaim (blocks - length v.space.free) v
    → runs.held ≡ granted_runs free.runs blocks → AreFreeRuns next_free.capacity next_free.runs → next_free.capacity ≡ free.capacity → Gains next_free.runs free.runs runs.held → AreOut next_free (blocks_in runs.held)
    → next ≡ slice_set due_calls (s - 1) (record (due_call_of due_calls s) { blocks = runs }) → after_core ≡ collected core blocks
    → IsCollection v b next_free next core after_core
collection_of v b free next_free due_calls next core after_core blocks runs s same at needs can store reclaimed granted order capacity gains out kept is =
    collection v b free next_free due_calls next core after_core blocks runs at needs can store reclaimed granted order capacity gains out
    (subst (λ (n : ℕ). next ≡ slice_set due_calls (n - 1) (record (due_call_of due_calls n) { blocks = runs })) same kept) is
