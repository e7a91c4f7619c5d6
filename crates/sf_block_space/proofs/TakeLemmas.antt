-- A run that a grant takes.
use Rattle.std.proofs.Common.{◌≡◌, ℕ, suc, ◌+◌, ◌-◌, ◌≤◌, ◌<◌, ◌⊎◌, inl, inr, List, [], ◌∷◌, ◌++◌, Some, length, take, drop, set, get_or, false, sym, ap, ◌∙◌, append_assoc, subst, arith}
use Rattle.std.specs.Prelude.{slice_get}
use Rattle.std.specs.List.{remove}
use Rattle.std.proofs.lemmas.List.{length-append, append-nil, set_split}
use Rattle.std.proofs.lemmas.List.FromFn.{length-range_with_len, get_or-range_with_len}
use Rattle.std.proofs.lemmas.Option.{get_or_from_slice_get, slice_get_within}
use Rattle.std.proofs.lemmas.Grind.{flat_map-append}
use Rattle.sf_types.specs.declared.run.Run.{Run}
use Rattle.sf_types.specs.Space.BlockRuns.{blocks_in, blocks_in_run, front_of, rest_of}
use Rattle.sf_types.proofs.BoolLemmas.{none-of-both}
use Rattle.sf_types.proofs.ListLemmas.{parts-at}
use Rattle.sf_types.proofs.RunLemmas.{blocks-within, run-split}
use Rattle.sf_block_space.specs.Free.{AreFreeRuns, AreFreeRunsFrom, AreOut, Gains, has_block}
use Rattle.sf_block_space.specs.Inside.{IsNext, IsTaken}
use Rattle.sf_block_space.proofs.MemberLemmas.{is_block_in, out-of-range, has-append, has-cons, range-once, none-below, none-before, gains-from}
use Rattle.sf_block_space.proofs.OrderLemmas.{free-from-before, behind, past, run-within, with-others}

-- what a run that was taken has changed
pub record Taken (capacity : ℕ) (runs left : List Run) (taken : Run) : Type 0 where
  pub gains : Gains left runs (taken ∷ [])
  pub order : AreFreeRuns capacity left
  pub out : AreOut (record { capacity = capacity; runs = left }) (blocks_in_run taken)
  pub size : length left ≤ length runs

-- the blocks of a run, each of which no other run has
run-out : (capacity : ℕ) (left : List Run) (run : Run) → run.first + run.blocks ≤ capacity
    → ((block : ℕ) → run.first ≤ block → block < run.first + run.blocks → has_block left block ≡ false)
    → AreOut (record { capacity = capacity; runs = left }) (blocks_in_run run)
run-out capacity left run ends apart = record {
  below = blocks-within run capacity ends;
  apart = λ k d less.
      let inside : k < run.blocks = omega (arith, less, length-range_with_len run.first run.blocks) in
      let is = get_or-range_with_len run.first run.blocks k d inside in
      apart (get_or (blocks_in_run run) k d) (omega (arith, is)) (omega (arith, is, inside));
  once = range-once run.first run.blocks;
}

-- a run whole
whole-taken : (capacity : ℕ) (before after : List Run) (run : Run) → AreFreeRuns capacity (before ++ run ∷ after) → Taken capacity (before ++ run ∷ after) (before ++ after) run
whole-taken capacity before after run free =
    let rest = behind 0 capacity before (run ∷ after) free in
    record {
      gains = gains-from (before ++ after) (before ++ run ∷ after) (run ∷ []) (blocks_in before) (blocks_in_run run) (blocks_in after)
          (flat_map-append blocks_in_run before after)
          (flat_map-append blocks_in_run before (run ∷ after))
          (append-nil (blocks_in_run run));
      order = with-others 0 capacity before (run ∷ after) after free (free-from-before (run.first + run.blocks + 1) (past 0 before) capacity after (omega (arith, rest.0)) rest.3);
      out = run-out capacity (before ++ after) run rest.2
          (λ block from to.
          has-append before after block
          ∙ none-of-both (has_block before block) (has_block after block)
          (none-before 0 capacity before run after block free from)
          (none-below (run.first + run.blocks + 1) capacity after block rest.3 (omega (arith, to))));
      size = omega (arith, length-append before after, length-append before (run ∷ after));
    }

-- the first blocks of a run
front-taken : (capacity : ℕ) (before after : List Run) (run : Run) (n : ℕ) → n < run.blocks → AreFreeRuns capacity (before ++ run ∷ after) → Taken capacity (before ++ run ∷ after) (before ++ rest_of run n ∷ after) (front_of run n)
front-taken capacity before after run n less free =
    let front = blocks_in_run (front_of run n) in
    let rest = blocks_in_run (rest_of run n) in
    let old = behind 0 capacity before (run ∷ after) free in
    let end : run.first + run.blocks + 1 ≡ run.first + n + (run.blocks - n) + 1 = omega (arith, less) in
    record {
      gains = gains-from (before ++ rest_of run n ∷ after) (before ++ run ∷ after) (front_of run n ∷ []) (blocks_in before) front (rest ++ blocks_in after)
          (flat_map-append blocks_in_run before (rest_of run n ∷ after))
          (flat_map-append blocks_in_run before (run ∷ after)
          ∙ ap (λ (xs : List ℕ). blocks_in before ++ (xs ++ blocks_in after)) (sym (run-split run n (omega (arith, less))))
          ∙ ap (λ (xs : List ℕ). blocks_in before ++ xs) (append_assoc front rest (blocks_in after)))
          (append-nil front);
      order = with-others 0 capacity before (run ∷ after) (rest_of run n ∷ after) free
          (omega (arith, old.0), omega (arith, less), omega (arith, less, old.2), subst (λ k. AreFreeRunsFrom k capacity after) end old.3);
      out = run-out capacity (before ++ rest_of run n ∷ after) (front_of run n) (omega (arith, less, old.2))
          (λ block from to.
          has-append before (rest_of run n ∷ after) block
          ∙ none-of-both (has_block before block) (has_block (rest_of run n ∷ after) block)
          (none-before 0 capacity before run after block free from)
          (has-cons (rest_of run n) after block
          ∙ none-of-both (is_block_in rest block) (has_block after block)
          (out-of-range (run.first + n) (run.blocks - n) block (inl to))
          (none-below (run.first + run.blocks + 1) capacity after block old.3 (omega (arith, to, less)))));
      size = omega (arith, length-append before (rest_of run n ∷ after), length-append before (run ∷ after));
    }

taken-like : (capacity : ℕ) (runs old left new : List Run) (taken run : Run) → runs ≡ old → left ≡ new → taken ≡ run → (AreFreeRuns capacity old → Taken capacity old new run) → AreFreeRuns capacity runs → Taken capacity runs left taken
taken-like capacity runs old left new taken run runs-are left-are taken-is took free =
    rw (runs-are, left-are, taken-is) (took (subst (AreFreeRuns capacity) runs-are free))

next-stands : (runs : List Run) (n at : ℕ) (run : Run) → IsNext runs n at run → slice_get runs at ≡ Some run
next-stands runs n at run (inl fit) = fit.stands
next-stands runs n at run (inr rest) = rest.1.stands

-- a taken run
pub taken-changes : (capacity : ℕ) (runs : List Run) (n : ℕ) (taken : Run) (left : List Run) → AreFreeRuns capacity runs → IsTaken runs n taken left → Taken capacity runs left taken
taken-changes capacity runs n taken left free (at, run, next, how) = choose how
  where
    stands : slice_get runs at ≡ Some run
    stands = next-stands runs n at run next

    within : at < length runs
    within = slice_get_within runs at run stands

    before : List Run
    before = take at runs

    after : List Run
    after = drop (suc at) runs

    parts : runs ≡ before ++ run ∷ after
    parts = parts-at runs at run within ∙ ap (λ (r : Run). before ++ r ∷ after) (get_or_from_slice_get runs at run run stands)

    choose : ((run.blocks ≤ n) × (taken ≡ run) × (left ≡ remove runs at)) ⊎ ((n < run.blocks) × (taken ≡ front_of run n) × (left ≡ set runs at (rest_of run n))) → Taken capacity runs left taken
    choose (inl whole) =
        taken-like capacity runs (before ++ run ∷ after) left (before ++ after) taken run parts whole.2 whole.1 (whole-taken capacity before after run) free
    choose (inr front) =
        taken-like capacity runs (before ++ run ∷ after) left (before ++ rest_of run n ∷ after) taken (front_of run n) parts (front.2 ∙ set_split runs at (rest_of run n) within) front.1
        (front-taken capacity before after run n front.0)
        free

-- its blocks are some, and at most n
pub taken-size : (capacity : ℕ) (runs : List Run) (n : ℕ) (taken : Run) (left : List Run) → AreFreeRuns capacity runs → 1 ≤ n → IsTaken runs n taken left → (1 ≤ taken.blocks) × (taken.blocks ≤ n)
taken-size capacity runs n taken left free amount (at, run, next, how) = choose how
  where
    stands : slice_get runs at ≡ Some run
    stands = next-stands runs n at run next

    is : get_or runs at run ≡ run
    is = get_or_from_slice_get runs at run run stands

    some : 1 ≤ run.blocks
    some = subst (λ (r : Run). 1 ≤ r.blocks) is (run-within 0 capacity runs at run free (slice_get_within runs at run stands)).0

    choose : ((run.blocks ≤ n) × (taken ≡ run) × (left ≡ remove runs at)) ⊎ ((n < run.blocks) × (taken ≡ front_of run n) × (left ≡ set runs at (rest_of run n))) → (1 ≤ taken.blocks) × (taken.blocks ≤ n)
    choose (inl whole) = rw (whole.1) (some, whole.0)
    choose (inr front) = rw (front.1) (amount, omega arith)
