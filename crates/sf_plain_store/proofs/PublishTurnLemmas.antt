-- A turn in which a call is published.
use Rattle.std.proofs.Common.{◌≡◌, ℕ, ◌-◌, ◌≤◌, ◌<◌, Bool, cond, true, false, List, [], ◌∷◌, ◌++◌, length, Option, Some, None, refl, sym, ap, subst, ◌∙◌}
use Rattle.std.specs.Prelude.{◌==◌, is_some, slice_index_or, slice_set}
use Rattle.std.specs.Option.{IfSome}
use Rattle.sf_types.specs.declared.call.Call.{Call}
use Rattle.sf_types.specs.declared.history.Entry.{Entry}
use Rattle.sf_types.specs.declared.history.Kind.TheVariants as kind
use Rattle.sf_types.specs.Table.Parts.{Promise, Table}
use Rattle.sf_types.specs.Table.Sessions.{has_session, session_of}
use Rattle.sf_types.specs.Space.BlockRuns.{blocks_in}
use Rattle.sf_types.specs.Space.Due.{is_due}
use Rattle.sf_types.specs.Orders.Histories.{call_entries, effect_of, entry_of, history_table, table_after}
use Rattle.sf_types.specs.Play.Blocks.{Space, after_entries, after_publication, collected_by, departed_blocks, places_after, unused_blocks, with_collected, with_free_blocks}
use Rattle.sf_types.specs.Play.Turns.{Collects, Ends, action_reply, action_where, stage_after, with_entries}
use Rattle.sf_types.specs.Halves.Asks.{after_answer}
use Rattle.sf_types.proofs.NumberLemmas.{from_one, one_less, own_number}
use Rattle.sf_laws.specs.Stages.{IsAtCall}
use Rattle.sf_laws.proofs.SpaceLemmas.{collected_other, own_list}
use Rattle.sf_laws.proofs.StageLemmas.{Holds, action_keeps, holds_sound}
use Rattle.sf_block_space.specs.Free.{AreFreeRuns, FreeSpace}
use Rattle.sf_versions.specs.declared.asks.Flush.{Flush}
use Rattle.sf_session.specs.declared.need.Need.TheVariants as need
use Rattle.sf_session.specs.declared.phase.Phase.TheVariants.{Unpromised}
use Rattle.sf_session.specs.Cores.{CoreView, accepted, need_of}
use Rattle.sf_session.specs.AtHome.{IsAtHomeAfter, publication_answer}
use Rattle.sf_session.proofs.NeedLemmas.{publish_need, unpromised_is}
use Rattle.sf_session.proofs.PromiseHomeLemmas.{publication_done}
use Rattle.sf_book.specs.Books.{BookView, table_of}
use Rattle.sf_book.specs.Moves.{IsMoved}
use Rattle.sf_plain_store.specs.declared.due_calls.DueCall.{DueCall}
use Rattle.sf_plain_store.specs.Stores.{IsAtHomeIn, StoreView, collected_count, stage_of, with_stage}
use Rattle.sf_plain_store.specs.Turns.{KeepsOthers, next_action, store_after, turn_reply}
use Rattle.sf_plain_store.specs.Inside.Bodies.{IsKept, IsStore, flush_at, store_of}
use Rattle.sf_plain_store.proofs.EntryTurnLemmas.{AreEntries, others_at_home, store_stands, unpromised_slot}
use Rattle.sf_plain_store.proofs.KeptFlushLemmas.{others_calls, others_entries}
use Rattle.sf_plain_store.proofs.PendingLemmas.{home_moved}
use Rattle.sf_plain_store.proofs.PromisedNeedLemmas.{HasBlocksOf, publishes}
use Rattle.sf_plain_store.proofs.StoreMoveLemmas.{blocks_collected, moved_table, same_store}

-- What a turn does in which a call is published.
pub record IsPublishTurn (b a : BookView) (free next_free : FreeSpace) (due_calls next : List DueCall) (core : CoreView) (c : Call) : Type 0 where
  pub store : IsStore a next_free next
  pub after : store_of a next_free next ≡ store_after (store_of b free due_calls) core c
  pub reply : turn_reply (store_of b free due_calls) core c ≡ Some (after_answer core.own c (publication_answer (table_of b) core c)).1
  pub home : IsAtHomeIn (store_of a next_free next) (accepted core c (publication_answer (table_of b) core c))
  pub others : KeepsOthers (store_of b free due_calls) (store_of a next_free next) core.session

pub publish_turn : (b a : BookView) (free next_free : FreeSpace) (due_calls next : List DueCall) (core : CoreView) (c : Call) → IsStore b free due_calls → IsAtHomeIn (store_of b free due_calls) core
    → core.standing ≡ Some c → need_of core ≡ need.Publish
    → IsMoved b a (entry_of core.session kind.Call c ∷ []) (collected_by (store_of b free due_calls).space core.session)
    → AreFreeRuns next_free.capacity next_free.runs → next_free.capacity ≡ free.capacity
    → blocks_in next_free.runs ≡ with_free_blocks (blocks_in free.runs) (unused_blocks (table_of b) (table_of a) (collected_by (store_of b free due_calls).space core.session))
    → blocks_collected next ≡ slice_set (blocks_collected due_calls) (core.session - 1) []
    → ((r : ℕ) → 1 ≤ r → (r ≡ core.session → ⊥) → flush_at next r ≡ flush_at due_calls r) → flush_at next core.session ≡ flush_at due_calls core.session
    → IsPublishTurn b a free next_free due_calls next core c
publish_turn b a free next_free due_calls next core c store at standing needs moved order capacity freed blocks slots kept =
    let v = store_of b free due_calls in
    let x = stage_of v in
    let t = table_of b in
    let s = core.session in
    let e = entry_of s kind.Call c in
    let es = e ∷ [] in
    let given = collected_by v.space s in
    let y = with_entries x s es in
    let u = table_after t es in
    let has = publishes (session_of t s).promise core c standing needs at.home.home.promised in
    let q = has.promise in
    let parts = publish_need core c standing needs in
    let enough : (q.blocks == length given) ≡ true = ap (λ (k : ℕ). q.blocks == k) (at.collected ∙ sym has.size) ∙ own_number q.blocks in
    let action_here : action_where (session_of t s).promise (is_due t s c) (length given) ≡ Ends =
    ap (λ (o : Option Promise). action_where o (is_due t s c) (length given)) has.is ∙ ap (λ k. cond k Ends (Collects q.blocks)) enough in
    let action : next_action v core c ≡ Ends = ap (λ (cs : List Call). action_where (session_of (table_after t (call_entries s cs)) s).promise (is_due (table_after t (call_entries s cs)) s c) (length given)) has.none ∙ action_here in
    let stage : stage_after x s core.pending c (next_action v core c) ≡ y =
    ap (stage_after x s core.pending c) action ∙ ap (λ (cs : List Call). with_entries x s (call_entries s cs ++ es)) has.none in
    let standing_is : IsAtCall t s core.pending c = record {
      session = at.home.home.session;
      goes_on = at.home.home.goes_on ∙ parts.goes_on;
      local = at.home.home.local;
      standing = subst (λ (o : Option Promise). IfSome o (λ promise. (core.pending ≡ []) × (c ≡ promise.call))) (sym has.is) (has.none, sym has.call);
    } in
    let before = holds_sound b.options b.sessions x store.sound in
    let holds : Holds b.options b.sessions y = subst (Holds b.options b.sessions) stage (action_keeps b.options b.sessions x s core.pending c before standing_is) in
    let table = moved_table b a es given moved in
    let space : Space = after_publication t u s v.space in
    let is : store_of a next_free next ≡ with_stage v y =
    same_store a.options b.options a.sessions b.sessions a.history (b.history ++ es) a.places (places_after t u b.places given) a.parked (b.parked ++ departed_blocks u b.places)
    (blocks_in next_free.runs) (with_free_blocks (blocks_in free.runs) (unused_blocks t u given)) (blocks_collected next) (slice_set (blocks_collected due_calls) (s - 1) [])
    moved.options moved.sessions moved.history
    (moved.places ∙ ap (λ (m : Table). places_after t m b.places given) table)
    (moved.parked ∙ ap (λ (m : Table). b.parked ++ departed_blocks m b.places) table)
    (freed ∙ ap (λ (m : Table). with_free_blocks (blocks_in free.runs) (unused_blocks t m given)) table)
    blocks
    ∙ ap (λ (o : Option Promise). with_stage v (record { history = b.history ++ es; table = u; space = cond (is_some o) space (after_entries t u v.space) })) (sym has.is) in
    let done = publication_done b.options b.sessions b.history core c at.home standing parts in
    let low = from_one s (length t.sessions) at.home.home.session in
    let of : AreEntries v due_calls next s es = record {
      holds = holds;
      entries = λ r apart. (apart, tt);
      slots = slots;
      collected = λ r low_r apart. ap (λ (o : Option Promise). collected_by (cond (is_some o) space (after_entries t u v.space)) r) has.is ∙ collected_other v.space s r [] low low_r apart;
    } in
    let ended = unpromised_is (session_of (history_table b.options b.sessions (b.history ++ es)) s).promise [] None Unpromised refl done.home.home.promised in
    let own_slot = subst (λ (o : Option Flush). IfSome o (IsKept b.options (history_table b.options b.sessions (b.history ++ es)) s)) (sym kept)
    (unpromised_slot b.options t (history_table b.options b.sessions (b.history ++ es)) s (flush_at due_calls s) (store.flushes s at.home.home.session) ended) in
    let home = home_moved b.options a.options b.sessions a.sessions (b.history ++ es) a.history (accepted core c (publication_answer t core c)) moved.options moved.sessions moved.history done.home in
    record {
      store = store_stands b a free next_free due_calls next s es store moved.options order capacity is of own_slot;
      after = is ∙ ap (with_stage v) (sym stage);
      reply = ap (action_reply x s core.pending c) action ∙ ap (λ (cs : List Call). (effect_of (table_after t (call_entries s cs)) e).1) has.none ∙ done.told;
      home = record {
        home = home;
        collected = ap (λ (lists : List (List ℕ)). length (slice_index_or lists (s - 1) [])) blocks
            ∙ ap (λ (bs : List ℕ). length bs) (own_list (blocks_collected due_calls) (s - 1) [] [] (subst (λ n. s - 1 < n) (sym before.has.lists) (one_less s (length t.sessions) at.home.home.session)));
      };
      others = subst (λ (w : StoreView). KeepsOthers v w s) (sym is) (others_at_home v due_calls next s es of);
    }
