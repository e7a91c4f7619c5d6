-- A store in which parked blocks became free.
use Rattle.std.proofs.Common.{◌≡◌, inl, inr, ℕ, ◌≤◌, IsTrue, List, [], ◌∷◌, ◌++◌, length, take, drop, refl, sym, ap, subst, ◌∙◌, arith}
use Rattle.std.specs.Prelude.{Err, Ok, OnErr, Result, min}
use Rattle.std.specs.Option.{IfSome}
use Rattle.std.proofs.Math.ListN.{drop_of_length-le}
use Rattle.std.proofs.lemmas.Bool.Decides.{leb_tells}
use Rattle.std.proofs.lemmas.List.{take_min}
use Rattle.sf_types.specs.declared.options.Options.{Options}
use Rattle.sf_types.specs.declared.run.Run.{Run}
use Rattle.sf_types.specs.Inside.Births.{IsRising}
use Rattle.sf_types.specs.Limits.{IsInRange}
use Rattle.sf_types.specs.Table.Sessions.{has_session}
use Rattle.sf_types.specs.Space.BlockRuns.{blocks_in}
use Rattle.sf_types.specs.Play.Blocks.{with_free_blocks}
use Rattle.sf_types.specs.Play.Turns.{stage_after_reclaim}
use Rattle.sf_laws.proofs.StageLemmas.{holds_sound, reclaimed_keeps}
use Rattle.sf_block_space.specs.Free.{AreFreeRuns, AreOut, FreeSpace, Gains}
use Rattle.sf_session.specs.Cores.{CoreView}
use Rattle.sf_book.specs.Books.{BookView}
use Rattle.sf_plain_store.specs.declared.due_calls.DueCall.{DueCall}
use Rattle.sf_plain_store.specs.Stores.{IsAtHomeIn, StoreView, stage_of}
use Rattle.sf_plain_store.specs.Turns.{IsLeft, KeepsCores, store_after_reclaim}
use Rattle.sf_plain_store.specs.Inside.Bodies.{IsKept, IsStore, flush_at, store_of}
use Rattle.sf_plain_store.proofs.BlockShareLemmas.{fit_out, parked_beside_free}
use Rattle.sf_plain_store.proofs.FreeBlockLemmas.{free_again, rising_same}
use Rattle.sf_plain_store.proofs.StoreMoveLemmas.{blocks_collected, same_store, sound_at}

-- What the first so many parked blocks leave, where there may be fewer.
drop_min : {X : Type 0} (n : ℕ) (xs : List X) → drop (min n (length xs)) xs ≡ drop n xs
drop_min n xs = elim (leb_tells n (length xs)) [
  | inl few ↦ let least : min n (length xs) ≡ n = omega (arith, few.1) in ap (λ k. drop k xs) least
  | inr many ↦
      let least : length xs ≤ min n (length xs) = omega (arith, many.1) in
      let most : length xs ≤ n = omega (arith, many.1) in
      drop_of_length-le xs least ∙ sym (drop_of_length-le xs most)
]

-- What a reclaim of at most so many blocks does.
pub record IsReclaimed (b a : BookView) (free next_free : FreeSpace) (due_calls : List DueCall) (most : ℕ) : Type 0 where
  pub after : store_of a next_free due_calls ≡ store_after_reclaim most (store_of b free due_calls)
  pub store : IsStore a next_free due_calls
  pub cores : KeepsCores (store_of b free due_calls) (store_of a next_free due_calls)

pub cores_stay : (v : StoreView) (most : ℕ) → KeepsCores v (store_after_reclaim most v)
cores_stay v most core at = record { home = at.home; collected = at.collected }

pub reclaimed : (b a : BookView) (free next_free : FreeSpace) (due_calls : List DueCall) (most count : ℕ) (ripe : List Run) → IsStore b free due_calls → count ≡ min most (length b.parked)
    → a ≡ record b { parked = drop count b.parked } → blocks_in ripe ≡ take count b.parked → AreFreeRuns next_free.capacity next_free.runs → next_free.capacity ≡ free.capacity → Gains free.runs next_free.runs ripe
    → IsReclaimed b a free next_free due_calls most
reclaimed b a free next_free due_calls most count ripe store counted book taken order capacity gains =
    let v = store_of b free due_calls in
    let freed : blocks_in next_free.runs ≡ with_free_blocks (blocks_in free.runs) (take most b.parked) =
    free_again next_free.capacity free.runs next_free.runs ripe order gains
    ∙ ap (with_free_blocks (blocks_in free.runs)) (taken ∙ ap (λ n. take n b.parked) counted ∙ take_min most b.parked) in
    let left : drop count b.parked ≡ drop most b.parked = ap (λ n. drop n b.parked) counted ∙ drop_min most b.parked in
    let is : store_of a next_free due_calls ≡ store_after_reclaim most v =
    ap (λ (w : BookView). store_of w next_free due_calls) book
    ∙ same_store b.options b.options b.sessions b.sessions b.history b.history b.places b.places (drop count b.parked) (drop most b.parked)
    (blocks_in next_free.runs) (with_free_blocks (blocks_in free.runs) (take most b.parked)) (blocks_collected due_calls) (blocks_collected due_calls)
    refl refl refl refl left freed refl in
    record {
      after = is;
      store = record {
        options = subst (λ (w : BookView). IsInRange w.options) (sym book) store.options;
        order = order;
        capacity = capacity ∙ store.capacity ∙ ap (λ (w : BookView). w.options.capacity) (sym book);
        sound = sound_at v (store_of a next_free due_calls) (stage_after_reclaim most (stage_of v)) is (reclaimed_keeps b.options b.sessions (stage_of v) most (holds_sound b.options b.sessions (stage_of v) store.sound));
        flushes = subst (λ (w : BookView). (s : ℕ) → IsTrue (has_session (stage_of (store_of w next_free due_calls)).table s) → IfSome (flush_at due_calls s) (IsKept w.options (stage_of (store_of w next_free due_calls)).table s)) (sym book) store.flushes;
      };
      cores = subst (λ (w : StoreView). KeepsCores v w) (sym is) (cores_stay v most);
    }

-- a reclaim of no blocks does nothing
pub none_reclaimed : (v : StoreView) → IsRising v.space.free → store_after_reclaim 0 v ≡ v
none_reclaimed v rises = ap (λ (bs : List ℕ). record v { space = record v.space { free = bs } }) (rising_same v.space.free rises)

-- parked blocks are out
pub parked_out : (b : BookView) (free : FreeSpace) (due_calls : List DueCall) (n : ℕ) (ripe : List Run) → IsStore b free due_calls → blocks_in ripe ≡ take n b.parked → AreOut free (blocks_in ripe)
parked_out b free due_calls n ripe store taken =
    let v = store_of b free due_calls in
    let before = holds_sound b.options b.sessions (stage_of v) store.sound in
    let t = (stage_of v).table in
    let size : t.options.capacity ≡ free.capacity = ap (λ (o : Options). o.capacity) before.same ∙ sym store.capacity in
    subst (AreOut free) (sym taken) (subst (λ k. AreOut (record { capacity = k; runs = free.runs }) (take n b.parked)) size (fit_out t.options.capacity free.runs (take n b.parked) (parked_beside_free t v.space before.has n)))

-- what is left after want of memory
pub left_as_before : {R E : Type 0} (v w : StoreView) (result : Result R E) → OnErr result (w ≡ v) → OnErr result (IsLeft v w)
left_as_before v w (Ok r) same = tt
left_as_before v w (Err e) same = inl same

pub left_reclaimed : {R E : Type 0} (v w : StoreView) (result : Result R E) → OnErr result ((most : ℕ) × (w ≡ store_after_reclaim most v)) → OnErr result (IsLeft v w)
left_reclaimed v w (Ok r) is = tt
left_reclaimed v w (Err e) is = inr is
