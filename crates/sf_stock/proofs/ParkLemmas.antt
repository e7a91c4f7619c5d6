-- Places in the order of their first blocks.
use Rattle.std.proofs.Common.{◌≡◌, ℕ, zero, suc, ◌+◌, ◌-◌, ◌<◌, ◌≤◌, ◌^◌, cond, List, [], ◌∷◌, ◌++◌, map, length, drop, get_or, refl, sym, ap, subst, ◌∙◌, arith}
use Rattle.std.specs.Prelude.{nat_lt, slice_get, slice_index_or, All, ◌==◌}
use Rattle.std.specs.List.{AllByRecursion, range_with_len, sum_by}
use Rattle.std.specs.List.Sorted.{IsPermutation, IsSortedByKey}
use Rattle.std.specs.Option.{option_map_or}
use Rattle.std.specs.Ordering.{nat_cmp, is_lt}
use Rattle.std.proofs.lemmas.List.{length-append, length-map, get_or-map}
use Rattle.std.proofs.lemmas.List.Elements.{All-from_recursion, All-get_or}
use Rattle.std.proofs.lemmas.List.Sorted.{All-permutation, IsPermutation-map, sum_by-IsPermutation}
use Rattle.std.proofs.lemmas.List.Sums.{sum_by-cons, sum_by-take-drop}
use Rattle.sf_types.specs.declared.birth_runs.BirthRuns.{BirthRuns}
use Rattle.sf_types.specs.declared.run.Run.{Run}
use Rattle.sf_types.specs.Rooms.{Roomy}
use Rattle.sf_types.specs.Space.BlockRuns.{blocks_in, AreRuns}
use Rattle.sf_types.specs.Space.Placings.{Placed, all_blocks}
use Rattle.sf_types.specs.Play.Blocks.{first_block, places_by_first}
use Rattle.sf_shrink.specs.Plans.{placed_at, blocks_of_places}
use Rattle.sf_dedup.specs.Contents.{Contents}
use Rattle.sf_lifetimes.specs.Ledgers.{LedgerView}
use Rattle.sf_lifetimes.specs.Departures.{first_of}
use Rattle.sf_lifetimes.proofs.CountLemmas.{few_numbers, once_below}
use Rattle.sf_lifetimes.proofs.ListingLemmas.{all_below}
use Rattle.sf_stock.specs.Stocks.{places_of}
use Rattle.sf_stock.specs.Inside.Keeps.{KnownMap, IsWhole, IsStock, AreBlocks, stocked_in, run_count}
use Rattle.sf_stock.proofs.NewLemmas.{count_of, count-append}
use Rattle.sf_stock.proofs.SortLemmas.{firsts_apart, sorted_places}

-- ---- the blocks of places, by their runs
pub blocks_are : (xs : List BirthRuns) → all_blocks (map placed_at xs) ≡ blocks_of_places xs
blocks_are [] = refl
blocks_are (x ∷ xs) = ap (λ (bs : List ℕ). blocks_in x.runs ++ bs) (blocks_are xs)

abbrev times : ℕ → BirthRuns → ℕ
times block = λ x. count_of block (blocks_in x.runs)

counted_by : (block : ℕ) (xs : List BirthRuns) → count_of block (blocks_of_places xs) ≡ sum_by (times block) xs
counted_by block [] = refl
counted_by block (x ∷ xs) = omega (arith, count-append block (blocks_in x.runs) (blocks_of_places xs), counted_by block xs, sum_by-cons (times block) x xs)

-- in another order each block stands as often
pub count_moved : (block : ℕ) (xs ys : List BirthRuns) → IsPermutation xs ys → count_of block (blocks_of_places ys) ≡ count_of block (blocks_of_places xs)
count_moved block xs ys moved = counted_by block ys ∙ sum_by-IsPermutation (times block) xs ys moved ∙ sym (counted_by block xs)

-- ---- the first block of a place
some_run : (run : Run) (rest : List Run) → AreRuns (run ∷ rest) → 1 ≤ run.blocks
some_run run [] are = are
some_run run (next ∷ rest) are = are.0

range_head : (first count : ℕ) (rest : List ℕ) → 1 ≤ count → slice_index_or (range_with_len first count ++ rest) 0 0 ≡ first
range_head first zero rest some = absurd (omega (arith, some))
range_head first (suc count) rest some = refl

first_is : (x : BirthRuns) → IsWhole x → first_of x ≡ first_block (placed_at x)
first_is x whole = of_runs x.runs whole.maximal whole.some
  where
    of_runs : (runs : List Run) → AreRuns runs → 1 ≤ length (blocks_in runs) → option_map_or (λ run. run.first) (slice_get runs 0) 0 ≡ slice_index_or (blocks_in runs) 0 0
    of_runs [] are some = absurd (omega (arith, some))
    of_runs (run ∷ rest) are some = sym (range_head run.first run.blocks (blocks_in rest) (some_run run rest are))

-- places in the order of their first blocks are those that the rule puts in that order
pub each_filled : (xs : List BirthRuns) → AllByRecursion IsWhole xs → AllByRecursion (λ x. 1 ≤ length x.blocks) (map placed_at xs)
each_filled [] whole = tt
each_filled (x ∷ xs) whole = (whole.0.some, each_filled xs whole.1)

sorted_blocks : (ys : List BirthRuns) → All IsWhole ys → IsSortedByKey first_of nat_cmp ys → IsSortedByKey first_block nat_cmp (map placed_at ys)
sorted_blocks [] whole sorted k d low less = absurd (omega (arith, less))
sorted_blocks (y ∷ ys) whole sorted k d low less =
    let all = y ∷ ys in
    let within : k + 1 < length all = omega (arith, less, length-map {B = Placed} all placed_at) in
    let before : k < length all = omega (arith, within) in
    ap (λ x. is_lt (nat_cmp (first_block x) (first_block (get_or (map placed_at all) k d)))) (get_or-map placed_at all (k + 1) y d within)
    ∙ ap (λ x. is_lt (nat_cmp (first_block (placed_at (get_or all (k + 1) y))) (first_block x))) (get_or-map placed_at all k y d before)
    ∙ ap (λ n. is_lt (nat_cmp n (first_block (placed_at (get_or all k y))))) (sym (first_is (get_or all (k + 1) y) (All-get_or IsWhole all (k + 1) y within whole)))
    ∙ ap (λ n. is_lt (nat_cmp (first_of (get_or all (k + 1) y)) n)) (sym (first_is (get_or all k y) (All-get_or IsWhole all k y before whole)))
    ∙ sorted k y low within

pub by_first : (xs ys : List BirthRuns) → AllByRecursion IsWhole xs → ((block : ℕ) → count_of block (blocks_of_places xs) ≤ 1) → IsPermutation xs ys → IsSortedByKey first_of nat_cmp ys → map placed_at ys ≡ places_by_first (map placed_at xs)
by_first xs ys whole once moved sorted =
    sorted_places (map placed_at xs) (map placed_at ys)
    (firsts_apart (map placed_at xs) (each_filled xs whole) (λ block. omega (arith, once block, ap (count_of block) (blocks_are xs))))
    (IsPermutation-map placed_at xs ys moved)
    (sorted_blocks ys (All-permutation IsWhole xs ys moved (All-from_recursion IsWhole xs whole)) sorted)

-- ---- a stock whose places that left are parked
each_place : (xs : List BirthRuns) → ((block : ℕ) → count_of block (blocks_of_places xs) ≤ cond (nat_lt block (2 ^ 32)) 1 0) → AllByRecursion (λ place. All (λ block. block < 2 ^ 32) (blocks_in place.runs)) xs
each_place [] most = tt
each_place (x ∷ xs) most = (
  All-from_recursion (λ block. block < 2 ^ 32) (blocks_in x.runs) (all_below (2 ^ 32) (blocks_in x.runs) (λ block. omega (arith, most block, count-append block (blocks_in x.runs) (blocks_of_places xs)))),
  each_place xs (λ block. omega (arith, most block, count-append block (blocks_in x.runs) (blocks_of_places xs))),
)

abbrev run_sum : List BirthRuns → ℕ
run_sum = λ xs. sum_by (λ place. length place.runs) xs

module _ (ledger : LedgerView) (known : KnownMap) (left sorted : List BirthRuns) (parked : List Run) (are : AreBlocks ledger known left parked) (moved : IsPermutation left sorted) where
  abbrev there : List ℕ
  there = all_blocks (places_of (map (stocked_in ledger.places) known))

  -- what left and what is parked stands once together
  once_here : (block : ℕ) → count_of block there + (count_of block (blocks_of_places left) + count_of block (blocks_in parked)) ≤ cond (nat_lt block (2 ^ 32)) 1 0
  once_here block =
      omega (
        arith,
        are.once block,
        count-append block there (all_blocks (map placed_at left) ++ blocks_in parked),
        count-append block (all_blocks (map placed_at left)) (blocks_in parked),
        ap (count_of block) (blocks_are left),
      )

  once_sorted : (block : ℕ) → count_of block (blocks_of_places sorted) ≤ cond (nat_lt block (2 ^ 32)) 1 0
  once_sorted block = omega (arith, once_here block, count_moved block left sorted moved)

  pub below_sorted : All (λ place. All (λ block. block < 2 ^ 32) (blocks_in place.runs)) sorted
  below_sorted = All-from_recursion (λ (place : BirthRuns). All (λ block. block < 2 ^ 32) (blocks_in place.runs)) sorted (each_place sorted once_sorted)

  pub few_sorted : length (blocks_in parked) + length (blocks_of_places sorted) ≤ 2 ^ 32
  few_sorted =
      omega (
        arith,
        length-append (blocks_in parked) (blocks_of_places sorted),
        few_numbers (blocks_in parked ++ blocks_of_places sorted) (2 ^ 32) (λ block. omega (arith, once_here block, count_moved block left sorted moved, count-append block (blocks_in parked) (blocks_of_places sorted))),
      )

  pub runs_sorted : run_sum sorted ≡ run_sum left
  runs_sorted = sum_by-IsPermutation (λ (place : BirthRuns). length place.runs) left sorted moved

  pub places_sorted : IsSortedByKey first_of nat_cmp sorted → blocks_of_places sorted ≡ all_blocks (places_by_first (map placed_at left))
  places_sorted rising =
      sym (blocks_are sorted)
      ∙ ap all_blocks (by_first left sorted are.whole (λ block. omega (arith, once_here block, once_below block (2 ^ 32))) moved rising)

  pub blocks_parked : (after : List Run) → blocks_in after ≡ blocks_in parked ++ blocks_of_places sorted → AreBlocks ledger known [] after
  blocks_parked after put = record {
    kept = are.kept;
    whole = tt;
    once = λ block. omega (
      arith,
      once_here block,
      count-append block there (blocks_in after),
      ap (count_of block) put,
      count-append block (blocks_in parked) (blocks_of_places sorted),
      count_moved block left sorted moved,
    );
  }

pub stock_parked : (ledger : Roomy LedgerView) (index : Roomy Contents) (known : Roomy KnownMap) (left sorted cleared : Roomy (List BirthRuns)) (parked after : Roomy (List Run)) (next runs room moved_runs : ℕ) → IsStock ledger index known left parked next runs room
    → IsPermutation left.held sorted.held → sorted.spare ≡ left.spare → cleared.held ≡ [] → cleared.spare ≡ sorted.spare + length sorted.held → blocks_in after.held ≡ blocks_in parked.held ++ blocks_of_places sorted.held
    → moved_runs ≡ run_sum sorted.held → parked.spare ≤ after.spare + moved_runs → IsStock ledger index known cleared after next (runs - moved_runs) room
stock_parked ledger index known left sorted cleared parked after next runs room moved_runs stands moved same_room empty cleared_room put count parked_room =
    let rooms = stands.rooms in
    let sums = runs_sorted ledger.held known.held left.held sorted.held parked.held stands.blocks moved in
    record {
      births = stands.births;
      blocks = subst (λ xs. AreBlocks ledger.held known.held xs after.held) (sym empty) (blocks_parked ledger.held known.held left.held sorted.held parked.held stands.blocks moved after.held put);
      counted = omega (arith, stands.counted, count, sums, ap (run_count ledger.held.places known.held) empty);
      rooms = record {
        ledger_room = rooms.ledger_room;
        index_room = rooms.index_room;
        known_room = rooms.known_room;
        left_room = omega (arith, rooms.left_room, same_room, cleared_room);
        parked_room = omega (arith, rooms.parked_room, parked_room, stands.counted, count, sums);
        birth_room = rooms.birth_room;
        run_number = omega (arith, rooms.run_number);
      };
    }

-- ---- a stock whose first parked blocks are taken
pub stock_ripe : (ledger : Roomy LedgerView) (index : Roomy Contents) (known : Roomy KnownMap) (left : Roomy (List BirthRuns)) (parked after : Roomy (List Run)) (next runs room count : ℕ) → IsStock ledger index known left parked next runs room
    → blocks_in after.held ≡ drop count (blocks_in parked.held) → parked.spare ≤ after.spare → IsStock ledger index known left after next runs room
stock_ripe ledger index known left parked after next runs room count stands dropped parked_room =
    let rooms = stands.rooms in
    let before = all_blocks (map placed_at left.held) in
    let placed = all_blocks (places_of (map (stocked_in ledger.held.places) known.held)) in
    record {
      births = stands.births;
      blocks = record {
        kept = stands.blocks.kept;
        whole = stands.blocks.whole;
        once = λ block. omega (
          arith,
          stands.blocks.once block,
          count-append block placed (before ++ blocks_in parked.held),
          count-append block before (blocks_in parked.held),
          count-append block placed (before ++ blocks_in after.held),
          count-append block before (blocks_in after.held),
          ap (count_of block) dropped,
          sum_by-take-drop (λ y. cond (block == y) 1 0) (blocks_in parked.held) count,
        );
      };
      counted = stands.counted;
      rooms = record {
        ledger_room = rooms.ledger_room;
        index_room = rooms.index_room;
        known_room = rooms.known_room;
        left_room = rooms.left_room;
        parked_room = omega (arith, rooms.parked_room, parked_room);
        birth_room = rooms.birth_room;
        run_number = rooms.run_number;
      };
    }
