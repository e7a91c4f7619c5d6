-- Runs that are put together where they touch.
use Rattle.std.proofs.Common.{◌≡◌, ℕ, ◌+◌, ◌≤◌, List, [], ◌∷◌, ◌++◌, sym, ap, ◌∙◌, append_assoc, arith, length}
use Rattle.std.specs.Prelude.{◌≢◌}
use Rattle.std.proofs.lemmas.Grind.{flat_map-append}
use Rattle.std.proofs.lemmas.List.{append-nil, length-append}
use Rattle.std.proofs.lemmas.List.FromFn.{length-range_with_len}
use Rattle.sf_types.specs.declared.run.Run.{Run}
use Rattle.sf_types.specs.Space.BlockRuns.{blocks_in, blocks_in_run, AreRuns}
use Rattle.sf_types.proofs.RunLemmas.{range-split}

abbrev pub longer : Run → ℕ → Run
longer run more = record { first = run.first; blocks = run.blocks + more }

-- the last run may get longer
pub runs_longer : (rs : List Run) (last : Run) (more : ℕ) → AreRuns (rs ++ last ∷ []) → AreRuns (rs ++ longer last more ∷ [])
runs_longer [] last more are = omega (arith, are)
runs_longer (r ∷ []) last more are = (are.0, are.1, omega (arith, are.2))
runs_longer (r ∷ s ∷ rs) last more are = (are.0, are.1, runs_longer (s ∷ rs) last more are.2)

-- a run may come behind the last where it doesn't touch it
pub runs_pushed : (rs : List Run) (last run : Run) → AreRuns (rs ++ last ∷ []) → (run.first ≢ last.first + last.blocks) → 1 ≤ run.blocks → AreRuns ((rs ++ last ∷ []) ++ run ∷ [])
runs_pushed [] last run are apart some = (are, apart, some)
runs_pushed (r ∷ []) last run are apart some = (are.0, are.1, (are.2, apart, some))
runs_pushed (r ∷ s ∷ rs) last run are apart some = (are.0, are.1, runs_pushed (s ∷ rs) last run are.2 apart some)

pub blocks_pushed : (rs : List Run) (run : Run) → blocks_in (rs ++ run ∷ []) ≡ blocks_in rs ++ blocks_in_run run
blocks_pushed rs run = flat_map-append blocks_in_run rs (run ∷ []) ∙ ap (λ (bs : List ℕ). blocks_in rs ++ bs) (append-nil (blocks_in_run run))

-- a run that touches the last makes it longer by its blocks
pub blocks_longer : (rs : List Run) (last run : Run) → last.first + last.blocks ≡ run.first → blocks_in (rs ++ longer last run.blocks ∷ []) ≡ blocks_in (rs ++ last ∷ []) ++ blocks_in_run run
blocks_longer rs last run touches =
    blocks_pushed rs (longer last run.blocks)
    ∙ ap (λ (bs : List ℕ). blocks_in rs ++ bs) (range-split last.first last.blocks run.blocks ∙ ap (λ n. blocks_in_run last ++ blocks_in_run (record { first = n; blocks = run.blocks })) touches)
    ∙ sym (append_assoc (blocks_in rs) (blocks_in_run last) (blocks_in_run run))
    ∙ ap (λ (bs : List ℕ). bs ++ blocks_in_run run) (sym (blocks_pushed rs last))

-- maximal runs are no more than their blocks
pub few_runs : (rs : List Run) → AreRuns rs → length rs ≤ length (blocks_in rs)
few_runs [] are = omega arith
few_runs (r ∷ []) are = omega (arith, are, length-append (blocks_in_run r) [], length-range_with_len r.first r.blocks)
few_runs (r ∷ s ∷ rs) are = omega (arith, few_runs (s ∷ rs) are.2, are.0, length-append (blocks_in_run r) (blocks_in (s ∷ rs)), length-range_with_len r.first r.blocks)
