-- Free runs are rising blocks, also once some came back or were granted.
use Rattle.std.proofs.Common.{◌≡◌, ℕ, zero, suc, cond, ◌+◌, ◌≤◌, ◌<◌, Bool, true, false, not, ◌||◌, ◌&&◌, List, [], ◌∷◌, ◌++◌, refl, sym, ap, ◌∙◌, arith}
use Rattle.std.specs.Prelude.{◌==◌, nat_lt, filter}
use Rattle.std.specs.List.{AllByRecursion as Each, list_any, range_with_len}
use Rattle.std.proofs.lemmas.List.Elements.{filter_agree}
use Rattle.std.proofs.lemmas.List.Folds.{list_any-append}
use Rattle.std.proofs.lemmas.Map.Views.{any-filter_same}
use Rattle.sf_types.specs.declared.run.Run.{Run}
use Rattle.sf_types.specs.Inside.Births.{IsBelowAll, IsRising, rising_births, with_birth}
use Rattle.sf_types.specs.Space.BlockRuns.{blocks_in, blocks_in_run}
use Rattle.sf_types.specs.Play.Blocks.{is_among, with_free_blocks}
use Rattle.sf_types.proofs.NumberLemmas.{same_number}
use Rattle.sf_laws.proofs.SumLemmas.{rising_rises}
use Rattle.sf_laws.proofs.PlacingLemmas.{rising-append, range_rises, rising_births-filter}
use Rattle.sf_lifetimes.specs.Ledgers.{has_birth}
use Rattle.sf_stock.proofs.LeaveLemmas.{same_rising}
use Rattle.sf_block_space.specs.Free.{AreFreeRuns, AreFreeRunsFrom, AreOut, FreeSpace, Gains, has_block}
use Rattle.sf_block_space.proofs.OutLemmas.{free-not-out}

-- all blocks of free runs begin where the runs do
below_runs : (block from capacity : ℕ) (runs : List Run) → AreFreeRunsFrom from capacity runs → block < from → IsBelowAll block (blocks_in runs)
below_runs block from capacity [] free less = tt
below_runs block from capacity (run ∷ runs) free less =
    below-append block (blocks_in_run run) (blocks_in runs) (below_range block run.first run.blocks (omega (arith, less, free.0)))
    (below_runs block (run.first + run.blocks + 1) capacity runs free.3 (omega (arith, less, free.0)))
  where
    below-append : (b : ℕ) (xs ys : List ℕ) → IsBelowAll b xs → IsBelowAll b ys → IsBelowAll b (xs ++ ys)
    below-append b [] ys first then = then
    below-append b (x ∷ xs) ys first then = (first.0, below-append b xs ys first.1 then)

    below_range : (b a n : ℕ) → b < a → IsBelowAll b (range_with_len a n)
    below_range b a zero less = tt
    below_range b a (suc n) less = (less, below_range b (a + 1) n (omega (arith, less)))

rising_from : (from capacity : ℕ) (runs : List Run) → AreFreeRunsFrom from capacity runs → IsRising (blocks_in runs)
rising_from from capacity [] free = tt
rising_from from capacity (run ∷ runs) free =
    rising-append (blocks_in_run run) (blocks_in runs) (range_rises run.first run.blocks) (rising_from (run.first + run.blocks + 1) capacity runs free.3)
    (each_range run.first run.blocks (omega arith))
  where
    each_range : (a n : ℕ) → a + n < run.first + run.blocks + 1 → Each (λ x. IsBelowAll x (blocks_in runs)) (range_with_len a n)
    each_range a zero less = tt
    each_range a (suc n) less = (below_runs a (run.first + run.blocks + 1) capacity runs free.3 (omega (arith, less)), each_range (a + 1) n (omega (arith, less)))

pub free_rise : (capacity : ℕ) (runs : List Run) → AreFreeRuns capacity runs → IsRising (blocks_in runs)
free_rise capacity runs free = rising_from 0 capacity runs free

-- a number among rising ones
has_put : (b : ℕ) (bs : List ℕ) (q : ℕ) → has_birth (with_birth b bs) q ≡ ((q == b) || has_birth bs q)
has_put b [] q = refl
has_put b (c ∷ bs) q =
    elim (nat_lt b c) as (λ t. has_birth (cond t (b ∷ c ∷ bs) (cond (b == c) (c ∷ bs) (c ∷ with_birth b bs))) q ≡ ((q == b) || has_birth (c ∷ bs) q)) [
      | true ↦ refl
      | false ↦ elim (b == c) as (λ t. (b == c) ≡ t → has_birth (cond t (c ∷ bs) (c ∷ with_birth b bs)) q ≡ ((q == b) || has_birth (c ∷ bs) q)) [
        | true ↦ λ same. twice (q == c) (has_birth bs q) ∙ ap (λ n. (q == n) || ((q == c) || has_birth bs q)) (sym (same_number b c same))
        | false ↦ λ _. ap (λ t. (q == c) || t) (has_put b bs q) ∙ swapped (q == c) (q == b) (has_birth bs q)
      ] refl
    ]
  where
    twice : (x y : Bool) → (x || y) ≡ (x || (x || y))
    twice true y = refl
    twice false y = refl

    swapped : (x y z : Bool) → (x || (y || z)) ≡ (y || (x || z))
    swapped true true z = refl
    swapped true false z = refl
    swapped false true z = refl
    swapped false false z = refl

has_rising : (bs : List ℕ) (q : ℕ) → has_birth (rising_births bs) q ≡ has_birth bs q
has_rising [] q = refl
has_rising (b ∷ bs) q = has_put b (rising_births bs) q ∙ ap (λ t. (q == b) || t) (has_rising bs q)

-- rising numbers, put in order
pub rising_same : (bs : List ℕ) → IsRising bs → rising_births bs ≡ bs
rising_same bs rises = same_rising (rising_births bs) bs (rising_rises bs) rises (has_rising bs)

swap_or : (x y : Bool) → (x || y) ≡ (y || x)
swap_or true true = refl
swap_or true false = refl
swap_or false true = refl
swap_or false false = refl

-- blocks that came back
pub free_again : (capacity : ℕ) (runs more gained : List Run) → AreFreeRuns capacity more → Gains runs more gained → blocks_in more ≡ with_free_blocks (blocks_in runs) (blocks_in gained)
free_again capacity runs more gained order gains =
    same_rising (blocks_in more) (with_free_blocks (blocks_in runs) (blocks_in gained)) (free_rise capacity more order) (rising_rises (blocks_in gained ++ blocks_in runs))
    (λ q.
    gains.blocks q ∙ swap_or (has_block runs q) (has_block gained q)
    ∙ sym (list_any-append (λ b. q == b) (blocks_in gained) (blocks_in runs))
    ∙ sym (has_rising (blocks_in gained ++ blocks_in runs) q))

-- blocks that were granted
pub free_left : (capacity : ℕ) (left runs granted : List Run) → AreFreeRuns capacity left → AreFreeRuns capacity runs → Gains left runs granted → AreOut (record { capacity = capacity; runs = left }) (blocks_in granted)
    → blocks_in left ≡ filter (λ block. not (is_among (blocks_in granted) block)) (blocks_in runs)
free_left capacity left runs granted order before gains out =
    let stays = λ (block : ℕ). not (is_among (blocks_in granted) block) in
    same_rising (blocks_in left) (filter stays (blocks_in runs)) (free_rise capacity left order) (rising_births-filter stays (blocks_in runs) (free_rise capacity runs before))
    (λ q.
    of_both (has_block left q) (has_block granted q) (free-not-out (record { capacity = capacity; runs = left }) (blocks_in granted) q out)
    ∙ ap (λ t. not (has_block granted q) && t) (sym (gains.blocks q))
    ∙ sym (any-filter_same (λ b. q == b) stays (stays q) (λ k is. ap stays (sym (same_number q k is))) (blocks_in runs)))
  where
    of_both : (x y : Bool) → (x ≡ true → y ≡ false) → x ≡ (not y && (x || y))
    of_both true true apart = absurd (differ (apart refl))
      where
        differ : true ≡ false → ⊥
        differ is = absurd cc
    of_both true false apart = refl
    of_both false true apart = refl
    of_both false false apart = refl
