-- A store to which nothing was done.
use Rattle.std.proofs.Common.{◌≡◌, ℕ, zero, suc, ◌+◌, ◌-◌, ◌≤◌, List, [], ◌∷◌, length, map, replicate, Option, None, refl, sym, ap, subst, ◌∙◌}
use Rattle.std.specs.Prelude.{slice_get, slice_index_or, unwrap_or}
use Rattle.std.specs.List.{range_with_len}
use Rattle.std.specs.Option.{IfSome}
use Rattle.sf_types.specs.declared.options.Options.{Options}
use Rattle.sf_types.specs.Limits.{IsInRange}
use Rattle.sf_types.specs.Space.BlockRuns.{blocks_in}
use Rattle.sf_types.specs.Play.Blocks.{all_free}
use Rattle.sf_types.specs.Play.Turns.{empty_stage}
use Rattle.sf_laws.specs.Stages.{IsSoundStage}
use Rattle.sf_laws.proofs.PlayLemmas.{there}
use Rattle.sf_laws.proofs.StageLemmas.{empty_holds, sound_holds}
use Rattle.sf_block_space.specs.Free.{AreFreeRuns, FreeSpace}
use Rattle.sf_versions.specs.declared.asks.Flush.{Flush}
use Rattle.sf_session.specs.Cores.{new_core}
use Rattle.sf_session.proofs.CallHomeLemmas.{new_home}
use Rattle.sf_book.specs.Books.{BookView}
use Rattle.sf_plain_store.specs.declared.due_calls.DueCall.{DueCall}
use Rattle.sf_plain_store.specs.Stores.{IsAtHomeIn, StoreView, stage_of}
use Rattle.sf_plain_store.specs.Inside.Bodies.{IsKept, IsStore, flush_at, store_of}
use Rattle.sf_plain_store.specs.Inside.DueCalls.{no_due_call}
use Rattle.sf_plain_store.proofs.StoreMoveLemmas.{blocks_collected}

-- The store, and the Book, to which nothing was done.
abbrev pub empty_store : Options → ℕ → StoreView
empty_store options sessions = record { options = options; sessions = sessions; history = []; space = all_free options.capacity sessions }

abbrev pub empty_book : Options → ℕ → BookView
empty_book options sessions = record { options = options; sessions = sessions; history = []; places = []; parked = [] }

-- no blocks for each of so many sessions
abbrev no_lists : ℕ → ℕ → List (List ℕ)
no_lists a n = map (λ s. []) (range_with_len a n)

nothing_collected : (a n : ℕ) → blocks_collected (replicate n no_due_call) ≡ no_lists a n
nothing_collected a zero = refl
nothing_collected a (suc n) = ap (λ (lists : List (List ℕ)). [] ∷ lists) (nothing_collected (a + 1) n)

nothing_kept : (n i : ℕ) → (unwrap_or (slice_get (replicate n no_due_call) i) no_due_call).flush ≡ None
nothing_kept zero i = refl
nothing_kept (suc n) zero = refl
nothing_kept (suc n) (suc i) = nothing_kept n i

pub opening_store : (b : BookView) (free : FreeSpace) (due_calls : List DueCall) (options : Options) (sessions : ℕ) → b ≡ empty_book options sessions → blocks_in free.runs ≡ range_with_len 0 options.capacity
    → due_calls ≡ replicate sessions no_due_call → store_of b free due_calls ≡ empty_store options sessions
opening_store b free due_calls options sessions book blocks none =
    ap (λ (v : BookView). store_of v free due_calls) book
    ∙ ap (λ (ds : List DueCall). store_of (empty_book options sessions) free ds) none
    ∙ ap (λ (bs : List ℕ). record (empty_store options sessions) { space = record (all_free options.capacity sessions) { free = bs; collected = blocks_collected (replicate sessions no_due_call) } }) blocks
    ∙ ap (λ (lists : List (List ℕ)). record (empty_store options sessions) { space = record (all_free options.capacity sessions) { collected = lists } }) (nothing_collected 1 sessions)

pub opening_stands : (b : BookView) (free : FreeSpace) (due_calls : List DueCall) (options : Options) (sessions : ℕ) → IsInRange options → b ≡ empty_book options sessions → AreFreeRuns free.capacity free.runs → free.capacity ≡ options.capacity
    → blocks_in free.runs ≡ range_with_len 0 options.capacity → due_calls ≡ replicate sessions no_due_call → IsStore b free due_calls
opening_stands b free due_calls options sessions range book order capacity blocks none =
    let is = opening_store b free due_calls options sessions book blocks none in
    record {
      options = subst (λ (v : BookView). IsInRange v.options) (sym book) range;
      order = order;
      capacity = capacity ∙ ap (λ (v : BookView). v.options.capacity) (sym book);
      sound = subst (λ (v : StoreView). IsSoundStage v.options v.sessions (stage_of v)) (sym is) (sound_holds options sessions (empty_stage options sessions) (empty_holds options sessions));
      flushes = λ s there. subst (λ (ds : List DueCall). IfSome (flush_at ds s) (IsKept b.options (stage_of (store_of b free due_calls)).table s)) (sym none)
          (subst (λ (o : Option Flush). IfSome o (IsKept b.options (stage_of (store_of b free due_calls)).table s)) (sym (nothing_kept sessions (s - 1))) tt);
    }

-- a new core is at home
pub new_at_home : (options : Options) (sessions s : ℕ) → 1 ≤ s → s ≤ sessions → IsAtHomeIn (empty_store options sessions) (new_core s options.gather)
new_at_home options sessions s low high = record {
  home = new_home options sessions s (there options sessions (empty_stage options sessions) s (empty_holds options sessions) low high);
  collected = ap (λ (bs : List ℕ). length bs) (empty 1 sessions (s - 1));
}
  where
    empty : (a n i : ℕ) → slice_index_or (no_lists a n) i [] ≡ []
    empty a zero i = refl
    empty a (suc n) zero = refl
    empty a (suc n) (suc i) = empty (a + 1) n i
