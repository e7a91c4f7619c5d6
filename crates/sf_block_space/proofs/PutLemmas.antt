-- A run that is put at an offset of a list.
use Rattle.std.proofs.Common.{◌≡◌, ℕ, suc, ◌+◌, ◌≤◌, ◌<◌, List, [], ◌∷◌, ◌++◌, Some, length, take, drop, set, get_or, sym, ap, ◌∙◌, append_assoc, subst, arith}
use Rattle.std.specs.Prelude.{slice_get}
use Rattle.std.specs.List.{remove, insert}
use Rattle.std.proofs.Math.Seq.{drop-cons, take-suc}
use Rattle.std.proofs.lemmas.List.{set_at, set_split, take-append-drop, length-take-le}
use Rattle.std.proofs.lemmas.Option.{slice_get-get_or}
use Rattle.sf_types.specs.declared.run.Run.{Run}
use Rattle.sf_types.proofs.ListLemmas.{parts-at}
use Rattle.sf_block_space.specs.Free.{AreFreeRuns}
use Rattle.sf_block_space.specs.Inside.{BeginsFrom}
use Rattle.sf_block_space.proofs.GapLemmas.{Put, joined, put-alone, put-before, put-behind, put-between}
use Rattle.sf_block_space.proofs.OrderLemmas.{past}

-- the run that was read at an offset stands there
pub stands-at : (runs : List Run) (at : ℕ) (run : Run) → at < length runs → run ≡ get_or runs at run → slice_get runs at ≡ Some run
stands-at runs at run within is = slice_get-get_or runs at run within ∙ ap (λ (r : Run). Some r) (sym is)

parts-here : (runs : List Run) (at : ℕ) (run : Run) → at < length runs → run ≡ get_or runs at run → runs ≡ take at runs ++ run ∷ drop (suc at) runs
parts-here runs at run within is = parts-at runs at run within ∙ ap (λ (r : Run). take at runs ++ r ∷ drop (suc at) runs) (sym is)

put-like : (capacity : ℕ) (runs old new more : List Run) (run : Run) → runs ≡ old → new ≡ more → (AreFreeRuns capacity old → Put capacity old more run) → AreFreeRuns capacity runs → Put capacity runs new run
put-like capacity runs old new more run runs-are new-are put free = rw (runs-are, new-are) (put (subst (AreFreeRuns capacity) runs-are free))

pub insert-put : (capacity : ℕ) (runs new : List Run) (at : ℕ) (run : Run) → AreFreeRuns capacity runs → 1 ≤ run.blocks → run.first + run.blocks ≤ capacity → past 0 (take at runs) ≤ run.first → BeginsFrom (run.first + run.blocks + 1) (drop at runs)
    → new ≡ insert runs at run → Put capacity runs new run
insert-put capacity runs new at run free some ends from behind new-is =
    put-like capacity runs (take at runs ++ drop at runs) new (take at runs ++ run ∷ drop at runs) run (sym (take-append-drop at runs)) new-is
    (λ split. put-alone capacity (take at runs) (drop at runs) run split some ends from behind)
    free

pub before-put : (capacity : ℕ) (runs : List Run) (at : ℕ) (run next : Run) → AreFreeRuns capacity runs → 1 ≤ run.blocks → past 0 (take at runs) ≤ run.first → at < length runs → next ≡ get_or runs at next → next.first ≡ run.first + run.blocks
    → Put capacity runs (set runs at (joined run next)) run
before-put capacity runs at run next free some from within is touching =
    put-like capacity runs (take at runs ++ next ∷ drop (suc at) runs) (set runs at (joined run next)) (take at runs ++ joined run next ∷ drop (suc at) runs) run
    (parts-here runs at next within is) (set_split runs at (joined run next) within)
    (λ split. put-before capacity (take at runs) (drop (suc at) runs) run next split some from (sym touching))
    free

pub behind-put : (capacity : ℕ) (runs : List Run) (at : ℕ) (last run : Run) → AreFreeRuns capacity runs → 1 ≤ run.blocks → run.first + run.blocks ≤ capacity → at < length runs → last ≡ get_or runs at last → last.first + last.blocks ≡ run.first
    → BeginsFrom (run.first + run.blocks + 1) (drop (suc at) runs) → Put capacity runs (set runs at (joined last run)) run
behind-put capacity runs at last run free some ends within is touching behind =
    put-like capacity runs (take at runs ++ last ∷ drop (suc at) runs) (set runs at (joined last run)) (take at runs ++ joined last run ∷ drop (suc at) runs) run
    (parts-here runs at last within is) (set_split runs at (joined last run) within)
    (λ split. put-behind capacity (take at runs) (drop (suc at) runs) last run split some ends touching behind)
    free

-- two neighbours
two-parts : (runs : List Run) (at : ℕ) (last next : Run) → suc at < length runs → last ≡ get_or runs at last → next ≡ get_or runs (suc at) next → runs ≡ take at runs ++ last ∷ next ∷ drop (suc (suc at)) runs
two-parts runs at last next within last-is next-is =
    parts-here runs at last (omega (arith, within)) last-is
    ∙ ap (λ (xs : List Run). take at runs ++ last ∷ xs) (drop-cons runs (suc at) next within ∙ ap (λ (r : Run). r ∷ drop (suc (suc at)) runs) (sym next-is))

set-removed : (runs : List Run) (at : ℕ) (run : Run) → suc at < length runs → set (remove runs (suc at)) at run ≡ take at runs ++ run ∷ drop (suc (suc at)) runs
set-removed runs at run within =
    let size : length (take at runs) ≡ at = length-take-le at runs (omega (arith, within)) in
    ap (λ (xs : List Run). set (xs ++ drop (suc (suc at)) runs) at run) (take-suc runs at run (omega (arith, within)))
    ∙ ap (λ (xs : List Run). set xs at run) (append_assoc (take at runs) (get_or runs at run ∷ []) (drop (suc (suc at)) runs))
    ∙ set_at (take at runs) (get_or runs at run) (drop (suc (suc at)) runs) run at size

pub between-put : (capacity : ℕ) (runs removed : List Run) (at : ℕ) (last run next : Run) → AreFreeRuns capacity runs → 1 ≤ run.blocks → suc at < length runs → last ≡ get_or runs at last → next ≡ get_or runs (suc at) next → last.first + last.blocks ≡ run.first
    → next.first ≡ run.first + run.blocks → removed ≡ remove runs (suc at) → Put capacity runs (set removed at (joined (joined last run) next)) run
between-put capacity runs removed at last run next free some inside last-is next-is touching touched removed-is =
    let whole = joined (joined last run) next in
    put-like capacity runs (take at runs ++ last ∷ next ∷ drop (suc (suc at)) runs) (set removed at whole) (take at runs ++ whole ∷ drop (suc (suc at)) runs) run
    (two-parts runs at last next inside last-is next-is)
    (ap (λ (xs : List Run). set xs at whole) removed-is ∙ set-removed runs at whole inside)
    (λ split. put-between capacity (take at runs) (drop (suc (suc at)) runs) last run next split some touching (sym touched))
    free
