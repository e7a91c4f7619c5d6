-- A turn in which promised blocks are collected.
use Rattle.std.proofs.Common.{◌≡◌, ℕ, ◌-◌, ◌≤◌, ◌<◌, Bool, cond, true, false, not, List, [], ◌∷◌, ◌++◌, length, Option, Some, None, refl, sym, ap, subst, ◌∙◌}
use Rattle.std.specs.Prelude.{◌==◌, filter, slice_set}
use Rattle.std.specs.Option.{IfSome}
use Rattle.sf_types.specs.declared.call.Call.{Call}
use Rattle.sf_types.specs.Table.Parts.{Promise, Table}
use Rattle.sf_types.specs.Table.Sessions.{session_of}
use Rattle.sf_types.specs.Space.BlockRuns.{blocks_in}
use Rattle.sf_types.specs.Space.Due.{is_due}
use Rattle.sf_types.specs.Space.Grants.{granted_blocks}
use Rattle.sf_types.specs.Orders.Histories.{call_entries, table_after}
use Rattle.sf_types.specs.Play.Blocks.{after_collection, after_reclaim, collected_by, is_among, with_collected}
use Rattle.sf_types.specs.Play.Turns.{Action, Collects as CollectsBlocks, Ends, action_reply, action_where, stage_after}
use Rattle.sf_types.proofs.NumberLemmas.{from_one, one_less}
use Rattle.sf_laws.specs.Stages.{IsAtCall}
use Rattle.sf_laws.proofs.SpaceLemmas.{IsCollected, collected_other}
use Rattle.sf_laws.proofs.StageLemmas.{Holds, action_keeps, collected_keeps, holds_sound}
use Rattle.sf_block_space.specs.Free.{AreFreeRuns, FreeSpace}
use Rattle.sf_session.specs.declared.need.Need.TheVariants as need
use Rattle.sf_session.specs.Cores.{CoreView, collected, need_of}
use Rattle.sf_session.proofs.CallHomeLemmas.{collected_home}
use Rattle.sf_book.specs.Books.{BookView, table_of}
use Rattle.sf_plain_store.specs.declared.due_calls.DueCall.{DueCall}
use Rattle.sf_plain_store.specs.Stores.{IsAtHomeIn, StoreView, collected_count, stage_of, with_stage}
use Rattle.sf_plain_store.specs.Turns.{KeepsOthers, next_action, store_after, store_after_reclaim, turn_reply}
use Rattle.sf_plain_store.specs.Inside.Bodies.{IsKept, IsStore, flush_at, store_of}
use Rattle.sf_plain_store.proofs.BlockShareLemmas.{enough_ready}
use Rattle.sf_plain_store.proofs.PromisedNeedLemmas.{collects}
use Rattle.sf_plain_store.proofs.StoreMoveLemmas.{blocks_collected, same_store, sound_at}

-- What is known of a collection before its blocks are granted.
pub record IsCollecting (v : StoreView) (core : CoreView) (c : Call) (blocks : ℕ) : Type 0 where
  pub none : core.pending ≡ []
  pub action : next_action v core c ≡ CollectsBlocks blocks
  pub holds : Holds v.options v.sessions (stage_after (stage_of v) core.session core.pending c (CollectsBlocks blocks))
  pub size : length (collected_by (after_collection core.session blocks v.space) core.session) ≡ blocks
  pub enough : blocks ≤ length (after_reclaim (blocks - length v.space.free) v.space).free

pub collecting : (v : StoreView) (core : CoreView) (c : Call) (blocks : ℕ) → Holds v.options v.sessions (stage_of v) → IsAtHomeIn v core → core.standing ≡ Some c → need_of core ≡ need.Collect blocks → IsCollecting v core c blocks
collecting v core c blocks before at standing needs =
    let x = stage_of v in
    let t = x.table in
    let s = core.session in
    let own = collected_by v.space s in
    let is = collects (session_of t s).promise core c blocks standing needs at.home.home.promised in
    let q = is.has.promise in
    let nothing : length own ≡ 0 = at.collected ∙ ap collected_count is.phase in
    let empty : own ≡ [] = none own nothing in
    let apart : (q.blocks == length own) ≡ false = ap (λ (k : ℕ). k == length own) is.has.size ∙ ap (λ (k : ℕ). blocks == k) nothing ∙ is.some in
    let here : action_where (session_of t s).promise (is_due t s c) (length own) ≡ CollectsBlocks blocks =
    ap (λ (o : Option Promise). action_where o (is_due t s c) (length own)) is.has.is ∙ ap (λ k. cond k Ends (CollectsBlocks q.blocks)) apart ∙ ap CollectsBlocks is.has.size in
    let action : next_action v core c ≡ CollectsBlocks blocks = ap (λ (cs : List Call). action_where (session_of (table_after t (call_entries s cs)) s).promise (is_due (table_after t (call_entries s cs)) s c) (length own)) is.has.none ∙ here in
    let standing_is : IsAtCall t s core.pending c = record {
      session = at.home.home.session;
      goes_on = at.home.home.goes_on ∙ is.goes_on;
      local = at.home.home.local;
      standing = subst (λ (o : Option Promise). IfSome o (λ promise. (core.pending ≡ []) × (c ≡ promise.call))) (sym is.has.is) (is.has.none, sym is.has.call);
    } in
    let kept : IsCollected t s blocks v.space = subst (λ (n : ℕ). IsCollected t s n v.space) is.has.size (collected_keeps v.options v.sessions x s q before at.home.home.session is.has.is empty) in
    record {
      none = is.has.none;
      action = action;
      holds = subst (λ (a : Action). Holds v.options v.sessions (stage_after x s core.pending c a)) action (action_keeps v.options v.sessions x s core.pending c before standing_is);
      size = kept.size;
      enough = enough_ready t s blocks v.space at.home.home.session empty before.has kept;
    }
  where
    none : (xs : List ℕ) → length xs ≡ 0 → xs ≡ []
    none [] is = refl
    none (x ∷ xs) is = absurd cc

-- What a turn does in which so many blocks are collected: first parked ones are free, then those are granted.
pub record IsCollectTurn (v : StoreView) (b : BookView) (next_free : FreeSpace) (next : List DueCall) (core : CoreView) (c : Call) (blocks : ℕ) : Type 0 where
  pub store : IsStore b next_free next
  pub after : store_of b next_free next ≡ store_after v core c
  pub reply : turn_reply v core c ≡ None
  pub home : IsAtHomeIn (store_of b next_free next) (collected core blocks)
  pub others : KeepsOthers v (store_of b next_free next) core.session

pub collect_turn : (v : StoreView) (b : BookView) (free next_free : FreeSpace) (due_calls next : List DueCall) (core : CoreView) (c : Call) (blocks : ℕ) → IsAtHomeIn v core → need_of core ≡ need.Collect blocks
    → IsCollecting v core c blocks → IsStore b free due_calls → store_of b free due_calls ≡ store_after_reclaim (blocks - length v.space.free) v
    → AreFreeRuns next_free.capacity next_free.runs → next_free.capacity ≡ free.capacity
    → blocks_in next_free.runs ≡ filter (λ block. not (is_among (granted_blocks (blocks_in free.runs) blocks) block)) (blocks_in free.runs)
    → blocks_collected next ≡ slice_set (blocks_collected due_calls) (core.session - 1) (granted_blocks (blocks_in free.runs) blocks)
    → ((r : ℕ) → 1 ≤ r → flush_at next r ≡ flush_at due_calls r)
    → IsCollectTurn v b next_free next core c blocks
collect_turn v b free next_free due_calls next core c blocks at needs of store reclaimed order capacity left taken slots =
    let x = stage_of v in
    let s = core.session in
    let y = stage_after x s core.pending c (CollectsBlocks blocks) in
    let w = store_of b free due_calls in
    let is : store_of b next_free next ≡ with_stage v y = collected_store v b free next_free due_calls next s blocks reclaimed left taken in
    let table : (stage_of w).table ≡ (stage_of (with_stage v y)).table = ap (λ (z : StoreView). (stage_of z).table) reclaimed in
    let low = from_one s (length (stage_of v).table.sessions) at.home.home.session in
    record {
      store = record {
        options = store.options;
        order = order;
        capacity = capacity ∙ store.capacity;
        sound = sound_at v (store_of b next_free next) y is of.holds;
        flushes = λ r there. subst (λ o. IfSome o (IsKept b.options (stage_of w).table r)) (sym (slots r (from_one r (length (stage_of w).table.sessions) there))) (store.flushes r there);
      };
      after = is ∙ ap (λ (a : Action). with_stage v (stage_after x s core.pending c a)) (sym of.action);
      reply = ap (action_reply x s core.pending c) of.action;
      home = subst (λ (z : StoreView). IsAtHomeIn z (collected core blocks)) (sym is) (record {
        home = record { legal = at.home.legal; home = collected_home x.table core blocks at.home.home needs };
        collected = of.size;
      });
      others = subst (λ (z : StoreView). KeepsOthers v z s) (sym is) (λ other apart there. record {
        home = there.home;
        collected = ap (λ (bs : List ℕ). length bs) (collected_other (after_reclaim (blocks - length v.space.free) v.space) s other.session (granted_blocks (after_reclaim (blocks - length v.space.free) v.space).free blocks) low (from_one other.session (length x.table.sessions) there.home.home.session) apart) ∙ there.collected;
      });
    }
  where
    collected_store : (v : StoreView) (b : BookView) (free next_free : FreeSpace) (due_calls next : List DueCall) (s blocks : ℕ) → store_of b free due_calls ≡ store_after_reclaim (blocks - length v.space.free) v
        → blocks_in next_free.runs ≡ filter (λ block. not (is_among (granted_blocks (blocks_in free.runs) blocks) block)) (blocks_in free.runs)
        → blocks_collected next ≡ slice_set (blocks_collected due_calls) (s - 1) (granted_blocks (blocks_in free.runs) blocks)
        → store_of b next_free next ≡ record v { space = after_collection s blocks v.space }
    collected_store v b free next_free due_calls next s blocks reclaimed left taken =
        let got = λ (z : StoreView). granted_blocks z.space.free blocks in
        let stored : StoreView → StoreView = λ z. record z { space = record (with_collected z.space s (got z)) { free = filter (λ block. not (is_among (got z) block)) z.space.free } } in
        same_store b.options b.options b.sessions b.sessions b.history b.history b.places b.places b.parked b.parked
        (blocks_in next_free.runs) (filter (λ block. not (is_among (granted_blocks (blocks_in free.runs) blocks) block)) (blocks_in free.runs))
        (blocks_collected next) (slice_set (blocks_collected due_calls) (s - 1) (granted_blocks (blocks_in free.runs) blocks))
        refl refl refl refl refl left taken
        ∙ ap stored reclaimed
