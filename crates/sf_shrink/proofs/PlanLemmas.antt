-- The blocks of places and of plans.
use Rattle.std.proofs.Common.{◌≡◌, ℕ, ◌+◌, ◌≤◌, ◌<◌, Bool, true, false, ◌||◌, List, [], ◌∷◌, ◌++◌, length, map, take, get_or, eqb, refl, sym, ap, ◌∙◌, arith}
use Rattle.std.specs.Prelude.{All, AllPairs, ◌≢◌}
use Rattle.std.specs.List.{range_with_len, list_any, AllByRecursion}
use Rattle.std.proofs.lemmas.List.Elements.{recursion_from_All}
use Rattle.std.proofs.lemmas.Map.Steps.{length-le_from_distinct_below}
use Rattle.std.proofs.lemmas.Map.Keys.{IsDistinct-from_apart}
use Rattle.std.proofs.lemmas.List.{append-nil, length-append}
use Rattle.std.proofs.lemmas.List.Folds.{length-flat_map-take}
use Rattle.std.proofs.lemmas.List.FromFn.{length-range_with_len}
use Rattle.std.proofs.lemmas.Bool.Decides.{nat_tests}
use Rattle.sf_types.specs.declared.birth_runs.BirthRuns.{BirthRuns}
use Rattle.sf_types.specs.Space.BlockRuns.{blocks_in}
use Rattle.sf_types.proofs.RunLemmas.{range-split}
use Rattle.sf_types.specs.declared.run.Run.{Run}
use Rattle.sf_types.specs.Space.BlockRuns.{blocks_in_run}
use Rattle.sf_types.specs.Space.Placings.{Placed}
use Rattle.sf_types.specs.Space.Plans.{planned_from, planned_places}
use Rattle.sf_shrink.specs.Plans.{blocks_of_places, planned_shifts, planned, placed_at, shifted_to, blocks_of_shifts, ArePlaced, IsSafeWithoutGap}

planned-births : (start : ℕ) (places : List BirthRuns) → map (λ shift. shift.birth) (planned_shifts start places) ≡ map (λ place. place.birth) places
planned-births start [] = refl
planned-births start (place ∷ places) = ap (λ (xs : List ℕ). place.birth ∷ xs) (planned-births (start + length (blocks_in place.runs)) places)

planned-counts : (start : ℕ) (places : List BirthRuns) → map (λ shift. length (blocks_in shift.to)) (planned_shifts start places) ≡ map (λ place. length (blocks_in place.runs)) places
planned-counts start [] = refl
planned-counts start (place ∷ places) =
    let n = length (blocks_in place.runs) in
    let own : length (range_with_len start n ++ []) ≡ n = ap length (append-nil (range_with_len start n)) ∙ length-range_with_len start n in
    ap (λ k. k ∷ map (λ shift. length (blocks_in shift.to)) (planned_shifts (start + n) places)) own
    ∙ ap (λ (xs : List ℕ). n ∷ xs) (planned-counts (start + n) places)

pub planned-blocks : (start : ℕ) (places : List BirthRuns) → blocks_of_shifts (planned_shifts start places) ≡ range_with_len start (length (blocks_of_places places))
planned-blocks start [] = refl
planned-blocks start (place ∷ places) =
    let n = length (blocks_in place.runs) in
    let own : range_with_len start n ++ [] ≡ range_with_len start n = append-nil (range_with_len start n) in
    ap (λ (xs : List ℕ). xs ++ blocks_of_shifts (planned_shifts (start + n) places)) own
    ∙ ap (λ (xs : List ℕ). range_with_len start n ++ xs) (planned-blocks (start + n) places)
    ∙ sym (range-split start n (length (blocks_of_places places)))
    ∙ ap (range_with_len start) (sym (length-append (blocks_in place.runs) (blocks_of_places places)))

any-below : (c q : ℕ) (xs : List ℕ) → AllByRecursion (λ x. x < c) xs → list_any (eqb q) xs ≡ true → q < c
any-below c q [] all some = absurd cc
any-below c q (x ∷ xs) all some = choose (eqb q x) refl some (any-below c q xs all.1)
  where
    choose : (b : Bool) → eqb q x ≡ b → (b || list_any (eqb q) xs) ≡ true → (list_any (eqb q) xs ≡ true → q < c) → q < c
    choose true is some rest = let same : q ≡ x = grind (arith, nat_tests, is) in omega (arith, same, all.0)
    choose false is some rest = rest some

-- blocks below a capacity of which none is named twice are no more than the capacity
few-blocks : (c : ℕ) (xs : List ℕ) → All (λ x. x < c) xs → AllPairs (λ x y. x ≢ y) xs → length xs ≤ c
few-blocks c xs below once =
    length-le_from_distinct_below xs c
    (IsDistinct-from_apart eqb xs (λ i j d less within. apart (get_or xs i d) (get_or xs j d) (once i j d less within)))
    (λ q some. any-below c q xs (recursion_from_All (λ x. x < c) xs below) some)
  where
    apart : (x y : ℕ) → x ≢ y → eqb x y ≡ false
    apart x y other = grind (arith, nat_tests, other)

-- the plan is safe and has no gap
pub planned-safe : (places : List BirthRuns) (capacity : ℕ) → ArePlaced places capacity → IsSafeWithoutGap places (planned places) capacity
planned-safe places capacity placed = record {
  births = planned-births 0 places;
  counts = planned-counts 0 places;
  blocks = planned-blocks 0 places;
  below = few-blocks capacity (blocks_of_places places) placed.below placed.once;
}

-- the blocks of one place more are no more than all
next-placed : (places : List BirthRuns) (k : ℕ) (place : BirthRuns) → k < length places → place ≡ get_or places k place → length (blocks_of_places (take k places)) + length (blocks_in place.runs) ≤ length (blocks_of_places places)
next-placed places k place less is =
    omega (arith, length-flat_map-take (λ (x : BirthRuns). blocks_in x.runs) places k place less, ap (λ (x : BirthRuns). length (blocks_in x.runs)) is)

-- the blocks of the places so far and of the next one are no more than the capacity
pub place-within : (places items : List BirthRuns) (k : ℕ) (place : BirthRuns) (capacity : ℕ) → ArePlaced places capacity → items ≡ places → k < length items → place ≡ get_or items k place → length (blocks_of_places (take k items)) + length (blocks_in place.runs) ≤ capacity
place-within places items k place capacity placed same less is =
    omega (
      arith,
      ap (λ xs. length (blocks_of_places xs)) same,
      few-blocks capacity (blocks_of_places places) placed.below placed.once,
      next-placed items k place less is,
    )

-- the blocks of a shift to one run
shifted-blocks : (birth : ℕ) (run : Run) → shifted_to (record { birth = birth; to = run ∷ [] }) ≡ record { birth = birth; blocks = blocks_in_run run }
shifted-blocks birth run = ap (λ (xs : List ℕ). record { birth = birth; blocks = xs }) (append-nil (blocks_in_run run))

planned-rule-from : (start : ℕ) (places : List BirthRuns) → map shifted_to (planned_shifts start places)
    ≡ planned_from (λ x. length x.blocks) (λ x run. record { birth = x.birth; blocks = blocks_in_run run }) start (map placed_at places)
planned-rule-from start [] = refl
planned-rule-from start (place ∷ places) =
    let n = length (blocks_in place.runs) in
    let own = shifted-blocks place.birth (record { first = start; blocks = n }) in
    ap (λ (x : Placed). x ∷ map shifted_to (planned_shifts (start + n) places)) own
    ∙ ap (λ (xs : List Placed). record { birth = place.birth; blocks = range_with_len start n } ∷ xs) (planned-rule-from (start + n) places)

-- the plan of runs is the plan of blocks
pub planned-rule : (places : List BirthRuns) → map shifted_to (planned places) ≡ planned_places (map placed_at places)
planned-rule places = planned-rule-from 0 places
