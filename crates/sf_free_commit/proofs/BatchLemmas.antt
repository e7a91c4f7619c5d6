-- Batches of parked runs.
use Rattle.std.proofs.Common.{◌≡◌, ℕ, zero, suc, ◌+◌, ◌-◌, ◌≤◌, ◌<◌, ◌⊎◌, inl, inr, List, [], ◌∷◌, ◌++◌, length, take, drop, min, true, false, ltb, refl, sym, ap, ◌∙◌, append_assoc, arith}
use Rattle.std.proofs.Math.Seq.{take-append_seam, drop-append_seam}
use Rattle.std.proofs.lemmas.Bool.{cases_lt, lt-ltb, le-ltb}
use Rattle.std.proofs.lemmas.List.{append-nil, length-append}
use Rattle.std.proofs.lemmas.List.FromFn.{length-range_with_len}
use Rattle.sf_types.specs.declared.run.Run.{Run}
use Rattle.sf_types.specs.Space.BlockRuns.{blocks_in, blocks_in_run, front_of, rest_of}
use Rattle.sf_types.proofs.RunLemmas.{run-split}
use Rattle.sf_free_commit.specs.Batches.{first_runs, later_runs, LeavesFirst}

-- a batch goes on with the runs that are left
pub record Goes (runs : List Run) (n : ℕ) (taken : Run) (left : List Run) : Type 0 where
  pub first : first_runs n runs ≡ taken ∷ first_runs (n - taken.blocks) left
  pub later : later_runs n runs ≡ later_runs (n - taken.blocks) left
  pub room : min (n - taken.blocks) (length left) + 1 ≤ min n (length runs)
  pub blocks : length (blocks_in runs) ≡ taken.blocks + length (blocks_in left)

goes-whole : (n : ℕ) (run : Run) (runs : List Run) → 1 ≤ n → 1 ≤ run.blocks → run.blocks ≤ n → Goes (run ∷ runs) n run runs
goes-whole zero run runs wanted some less = absurd (omega (arith, wanted))
goes-whole (suc n) run runs wanted some less =
    let whole : ltb (suc n) run.blocks ≡ false = le-ltb (suc n) run.blocks less in
    record {
      first = rw whole refl;
      later = rw whole refl;
      room = omega (arith, some, less);
      blocks = omega (arith, length-append (blocks_in_run run) (blocks_in runs), length-range_with_len run.first run.blocks);
    }

goes-front : (n : ℕ) (run : Run) (runs : List Run) → 1 ≤ n → n < run.blocks → Goes (run ∷ runs) n (front_of run n) (rest_of run n ∷ runs)
goes-front zero run runs wanted more = absurd (omega (arith, wanted))
goes-front (suc n) run runs wanted more =
    let cut : ltb (suc n) run.blocks ≡ true = lt-ltb (suc n) run.blocks more in
    let none : suc n - suc n ≡ 0 = omega arith in
    record {
      first = rw (cut, none) refl;
      later = rw (cut, none) refl;
      room = omega arith;
      blocks = omega (
        arith,
        more,
        length-append (blocks_in_run run) (blocks_in runs),
        length-append (blocks_in_run (rest_of run (suc n))) (blocks_in runs),
        length-range_with_len run.first run.blocks,
        length-range_with_len (run.first + suc n) (run.blocks - suc n),
      );
    }

pub goes : (runs : List Run) (n : ℕ) (taken : Run) (left : List Run) → 1 ≤ n → 1 ≤ taken.blocks → LeavesFirst runs n taken left → Goes runs n taken left
goes runs n taken left wanted some (run, others, runs-are, inl (less, taken-is, left-is)) =
    let own : 1 ≤ run.blocks = omega (arith, some, ap (λ (r : Run). r.blocks) taken-is) in
    rw (runs-are, taken-is, left-is) (goes-whole n run others wanted own less)
goes runs n taken left wanted some (run, others, runs-are, inr (more, taken-is, left-is)) =
    rw (runs-are, taken-is, left-is) (goes-front n run others wanted more)

-- a batch and what is left of the runs have their blocks, in their order
pub batch-parts : (n : ℕ) (runs : List Run) → blocks_in (first_runs n runs) ++ blocks_in (later_runs n runs) ≡ blocks_in runs
batch-parts zero runs = refl
batch-parts (suc n) [] = refl
batch-parts (suc n) (run ∷ runs) = choose (batch-parts (suc n - run.blocks) runs) (cases_lt (suc n) run.blocks)
  where
    choose : blocks_in (first_runs (suc n - run.blocks) runs) ++ blocks_in (later_runs (suc n - run.blocks) runs) ≡ blocks_in runs → (suc n < run.blocks) ⊎ (run.blocks ≤ suc n) → blocks_in (first_runs (suc n) (run ∷ runs)) ++ blocks_in (later_runs (suc n) (run ∷ runs)) ≡ blocks_in (run ∷ runs)
    choose others (inl more) =
        let cut : ltb (suc n) run.blocks ≡ true = lt-ltb (suc n) run.blocks more in
        let front = blocks_in_run (front_of run (suc n)) in
        let rest = blocks_in_run (rest_of run (suc n)) in
        rw cut
        (ap (λ (xs : List ℕ). xs ++ (rest ++ blocks_in runs)) (append-nil front)
        ∙ sym (append_assoc front rest (blocks_in runs))
        ∙ ap (λ (xs : List ℕ). xs ++ blocks_in runs) (run-split run (suc n) (omega (arith, more))))
    choose others (inr less) =
        let whole : ltb (suc n) run.blocks ≡ false = le-ltb (suc n) run.blocks less in
        rw whole
        (append_assoc (blocks_in_run run) (blocks_in (first_runs (suc n - run.blocks) runs)) (blocks_in (later_runs (suc n - run.blocks) runs))
        ∙ ap (λ (xs : List ℕ). blocks_in_run run ++ xs) others)

-- a batch has so many blocks, or all
pub batch-size : (n : ℕ) (runs : List Run) → length (blocks_in (first_runs n runs)) ≡ min n (length (blocks_in runs))
batch-size zero runs = omega arith
batch-size (suc n) [] = omega arith
batch-size (suc n) (run ∷ runs) = choose (batch-size (suc n - run.blocks) runs) (cases_lt (suc n) run.blocks)
  where
    all : length (blocks_in (run ∷ runs)) ≡ run.blocks + length (blocks_in runs)
    all = omega (arith, length-append (blocks_in_run run) (blocks_in runs), length-range_with_len run.first run.blocks)

    choose : length (blocks_in (first_runs (suc n - run.blocks) runs)) ≡ min (suc n - run.blocks) (length (blocks_in runs)) → (suc n < run.blocks) ⊎ (run.blocks ≤ suc n) → length (blocks_in (first_runs (suc n) (run ∷ runs))) ≡ min (suc n) (length (blocks_in (run ∷ runs)))
    choose others (inl more) =
        let cut : ltb (suc n) run.blocks ≡ true = lt-ltb (suc n) run.blocks more in
        let front = blocks_in_run (front_of run (suc n)) in
        rw cut (omega (arith, all, more, ap length (append-nil front), length-range_with_len run.first (suc n)))
    choose others (inr less) =
        let whole : ltb (suc n) run.blocks ≡ false = le-ltb (suc n) run.blocks less in
        let behind = first_runs (suc n - run.blocks) runs in
        rw whole (omega (arith, all, less, length-append (blocks_in_run run) (blocks_in behind), length-range_with_len run.first run.blocks, others))

-- what a batch takes and what it leaves are the two parts of the parked blocks
pub batch-blocks : (n amount : ℕ) (runs : List Run) → amount ≡ min n (length (blocks_in runs)) → (blocks_in (first_runs n runs) ≡ take amount (blocks_in runs)) × (blocks_in (later_runs n runs) ≡ drop amount (blocks_in runs))
batch-blocks n amount runs is =
    let first = blocks_in (first_runs n runs) in
    let later = blocks_in (later_runs n runs) in
    let size : length first ≡ amount = batch-size n runs ∙ sym is in (
      sym (take-append_seam first later) ∙ ap (take (length first)) (batch-parts n runs) ∙ ap (λ k. take k (blocks_in runs)) size,
      sym (drop-append_seam first later) ∙ ap (drop (length first)) (batch-parts n runs) ∙ ap (λ k. drop k (blocks_in runs)) size,
    )
