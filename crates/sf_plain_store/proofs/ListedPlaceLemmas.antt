-- Places as a Book lists them.
use Rattle.std.proofs.Common.{◌≡◌, ℕ, ◌+◌, ◌≤◌, List, [], ◌∷◌, ◌++◌, length, map, refl, ap, subst, ◌∙◌, arith}
use Rattle.std.proofs.lemmas.List.{length-append}
use Rattle.std.proofs.lemmas.List.Sums.{sum_by-cons}
use Rattle.sf_types.specs.declared.birth_runs.BirthRuns.{BirthRuns}
use Rattle.sf_types.specs.declared.limits.TheConstants.{STORE_BLOCKS}
use Rattle.sf_types.specs.declared.options.Options.{Options}
use Rattle.sf_types.specs.declared.place.Place.{Place}
use Rattle.sf_types.specs.Table.Parts.{Table}
use Rattle.sf_types.specs.Space.BlockRuns.{blocks_in}
use Rattle.sf_types.specs.Space.Placings.{Placed, all_blocks}
use Rattle.sf_types.specs.Orders.Transcripts.{placed_block_count}
use Rattle.sf_laws.proofs.BlockRunLemmas.{blocks-maximal}
use Rattle.sf_laws.proofs.StageLemmas.{holds_sound}
use Rattle.sf_block_space.specs.Free.{FreeSpace}
use Rattle.sf_shrink.specs.Plans.{placed_at}
use Rattle.sf_book.specs.Books.{BookView, listed_place, table_of}
use Rattle.sf_plain_store.specs.declared.due_calls.DueCall.{DueCall}
use Rattle.sf_plain_store.specs.Stores.{stage_of}
use Rattle.sf_plain_store.specs.Inside.Bodies.{IsStore, store_of}
use Rattle.sf_plain_store.specs.Inside.Places.{runs_of_place}
use Rattle.sf_plain_store.proofs.BlockShareLemmas.{few_placed}

pub listed_count : (t : Table) (places : List Placed) → placed_block_count (map (listed_place t) places) ≡ length (all_blocks places)
listed_count t [] = refl
listed_count t (x ∷ places) =
    omega (arith, sum_by-cons (λ (p : Place). length (blocks_in p.runs)) (listed_place t x) (map (listed_place t) places), ap (λ (bs : List ℕ). length bs) (blocks-maximal x.blocks), listed_count t places, length-append x.blocks (all_blocks places))

pub listed_runs : (t : Table) (places : List Placed) → map placed_at (map runs_of_place (map (listed_place t) places)) ≡ places
listed_runs t [] = refl
listed_runs t (x ∷ places) =
    ap (λ (bs : List ℕ). record { birth = x.birth; blocks = bs } ∷ map placed_at (map runs_of_place (map (listed_place t) places))) (blocks-maximal x.blocks)
    ∙ ap (λ (xs : List Placed). x ∷ xs) (listed_runs t places)

-- What is known of the blocks of a store's listed places.
pub record AreListed (b : BookView) (places : List Place) : Type 0 where
  pub count : placed_block_count places ≡ length (all_blocks b.places)
  pub within : length (all_blocks b.places) ≤ b.options.capacity
  pub few : b.options.capacity ≤ STORE_BLOCKS

pub are_listed : (b : BookView) (free : FreeSpace) (due_calls : List DueCall) (places : List Place) → IsStore b free due_calls → places ≡ map (listed_place (table_of b)) b.places → AreListed b places
are_listed b free due_calls places store is =
    let v = store_of b free due_calls in
    let before = holds_sound b.options b.sessions (stage_of v) store.sound in
    record {
      count = ap placed_block_count is ∙ listed_count (table_of b) b.places;
      within = subst (λ n. length (all_blocks b.places) ≤ n) (ap (λ (o : Options). o.capacity) before.same) (few_placed (table_of b) v.space before.has);
      few = store.options.capacity_high;
    }
