-- How often a block stands in runs, and how many blocks these have, after one run changed.
use Rattle.std.proofs.Common.{◌≡◌, ℕ, zero, suc, ◌+◌, ◌-◌, ◌<◌, ◌≤◌, List, [], ◌∷◌, ◌++◌, length, get_or, set, take, drop, Some, refl, sym, ap, ◌∙◌, subst, arith, length-append}
use Rattle.std.specs.Prelude.{slice_get}
use Rattle.std.specs.List.{sum_by, remove, range_with_len}
use Rattle.std.proofs.lemmas.List.FromFn.{length-range_with_len}
use Rattle.std.proofs.lemmas.List.Sums.{sum_by-cons, sum_by_push, sum_by-set, sum_by-remove, sum_by_more, sum_by-drop_more}
use Rattle.sf_types.specs.declared.run.Run.{Run}
use Rattle.sf_types.specs.Space.BlockRuns.{blocks_in, blocks_in_run}
use Rattle.sf_types.proofs.RunLemmas.{range-split, no_run}
use Rattle.sf_space_words.specs.Blocks.{times}
use Rattle.sf_space_words.proofs.TimesLemmas.{times-append}
use Rattle.sf_dispensers.specs.Inside.{IsJoined, GainsRun, CutsRun}

-- the blocks of runs are counted run by run
pub times-blocks_in : (b : ℕ) (runs : List Run) → times b (blocks_in runs) ≡ sum_by (λ run. times b (blocks_in_run run)) runs
times-blocks_in b [] = refl
times-blocks_in b (run ∷ runs) =
    times-append b (blocks_in_run run) (blocks_in runs)
    ∙ ap (λ (n : ℕ). times b (blocks_in_run run) + n) (times-blocks_in b runs)
    ∙ sym (sum_by-cons (λ (r : Run). times b (blocks_in_run r)) run runs)

pub length-blocks_in : (runs : List Run) → length (blocks_in runs) ≡ sum_by (λ run. run.blocks) runs
length-blocks_in [] = refl
length-blocks_in (run ∷ runs) =
    length-append (blocks_in_run run) (blocks_in runs)
    ∙ (λ i. length-range_with_len run.first run.blocks i + length-blocks_in runs i)
    ∙ sym (sum_by-cons (λ (r : Run). r.blocks) run runs)

-- one run more at the end
pub times-push : (b : ℕ) (runs : List Run) (run : Run) → times b (blocks_in (runs ++ run ∷ [])) ≡ times b (blocks_in runs) + times b (blocks_in_run run)
times-push b runs run =
    times-blocks_in b (runs ++ run ∷ [])
    ∙ (sum_by_push (λ (r : Run). times b (blocks_in_run r)) runs run
    ∙ ap (λ (n : ℕ). n + times b (blocks_in_run run)) (sym (times-blocks_in b runs)))

pub length-push : (runs : List Run) (run : Run) → length (blocks_in (runs ++ run ∷ [])) ≡ length (blocks_in runs) + run.blocks
length-push runs run =
    length-blocks_in (runs ++ run ∷ [])
    ∙ (sum_by_push (λ (r : Run). r.blocks) runs run
    ∙ ap (λ (n : ℕ). n + run.blocks) (sym (length-blocks_in runs)))

pub gains_push : (runs : List Run) (run : Run) → GainsRun runs (runs ++ run ∷ []) run
gains_push runs run = record { blocks = λ b. times-push b runs run; count = length-push runs run }

-- another run in the place of the last
pub gains_last : (runs : List Run) (last run both : Run) → IsJoined last run both → GainsRun (runs ++ last ∷ []) (runs ++ both ∷ []) run
gains_last runs last run both is = record {
  blocks = λ b. let j = is.blocks b in omega (arith, times-push b runs last, times-push b runs both, j);
  count = let j = is.count in omega (arith, length-push runs last, length-push runs both, j);
}

-- a last run of no blocks gives its place away
pub gains_empty : (runs : List Run) (last run : Run) → last.blocks ≡ 0 → GainsRun (runs ++ last ∷ []) (runs ++ run ∷ []) run
gains_empty runs last run none = record {
  blocks = λ b.
      let nothing : times b (blocks_in_run last) ≡ 0 = ap (λ (n : ℕ). times b (range_with_len last.first n)) none in
      omega (arith, times-push b runs last, times-push b runs run, nothing);
  count = omega (arith, length-push runs last, length-push runs run, none);
}

-- another run in the place of one
pub times-set : (b : ℕ) (runs : List Run) (at : ℕ) (run : Run) → at < length runs → times b (blocks_in (set runs at run)) + times b (blocks_in_run (get_or runs at no_run)) ≡ times b (blocks_in runs) + times b (blocks_in_run run)
times-set b runs at run lt =
    let f : Run → ℕ = λ r. times b (blocks_in_run r) in
    let s = sum_by-set f runs at run no_run lt in
    omega (arith, times-blocks_in b (set runs at run), times-blocks_in b runs, s)

pub length-set_run : (runs : List Run) (at : ℕ) (run : Run) → at < length runs → length (blocks_in (set runs at run)) + (get_or runs at no_run).blocks ≡ length (blocks_in runs) + run.blocks
length-set_run runs at run lt =
    let s = sum_by-set (λ (r : Run). r.blocks) runs at run no_run lt in
    omega (arith, length-blocks_in (set runs at run), length-blocks_in runs, s)

pub gains_set : (runs : List Run) (at : ℕ) (run both : Run) → at < length runs → IsJoined (get_or runs at no_run) run both → GainsRun runs (set runs at both) run
gains_set runs at run both lt is = record {
  blocks = λ b. let j = is.blocks b in omega (arith, times-set b runs at both lt, j);
  count = let j = is.count in omega (arith, length-set_run runs at both lt, j);
}

-- a run that is taken out whole
pub cuts_whole : (runs : List Run) (at : ℕ) → at < length runs → CutsRun runs (remove runs at) (get_or runs at no_run)
cuts_whole runs at lt b =
    let s = sum_by-remove (λ (r : Run). times b (blocks_in_run r)) runs at no_run lt in
    omega (arith, times-blocks_in b (remove runs at), times-blocks_in b runs, s)

-- a run's blocks are its first ones and the others
pub times-split : (b first n m : ℕ) → times b (range_with_len first (n + m)) ≡ times b (range_with_len first n) + times b (range_with_len (first + n) m)
times-split b first n m = ap (times b) (range-split first n m) ∙ times-append b (range_with_len first n) (range_with_len (first + n) m)

-- two neighbouring runs
pub joined_is : (run other both : Run) → run.first + run.blocks ≡ other.first → both.first ≡ run.first → both.blocks ≡ run.blocks + other.blocks → IsJoined run other both
joined_is run other both next first count = record {
  blocks = λ b.
      (λ i. times b (range_with_len (first i) (count i)))
      ∙ (times-split b run.first run.blocks other.blocks
      ∙ ap (λ (k : ℕ). times b (blocks_in_run run) + times b (range_with_len k other.blocks)) next);
  count = count;
}

pub joined_turned : (run other both : Run) → IsJoined other run both → IsJoined run other both
joined_turned run other both is = record {
  blocks = λ b. let j = is.blocks b in omega (arith, j);
  count = let j = is.count in omega (arith, j);
}

-- a run's first blocks are cut off
pub cuts_front : (runs : List Run) (at n : ℕ) → at < length runs → n ≤ (get_or runs at no_run).blocks
    → CutsRun runs (set runs at (record { first = (get_or runs at no_run).first + n; blocks = (get_or runs at no_run).blocks - n })) (record { first = (get_or runs at no_run).first; blocks = n })
cuts_front runs at n lt few b =
    let run : Run = get_or runs at no_run in
    let sum : n + (run.blocks - n) ≡ run.blocks = omega arith in
    let whole : times b (blocks_in_run run) ≡ times b (range_with_len run.first n) + times b (range_with_len (run.first + n) (run.blocks - n)) = ap (λ (k : ℕ). times b (range_with_len run.first k)) (sym sum) ∙ times-split b run.first n (run.blocks - n) in
    omega (arith, times-set b runs at (record { first = run.first + n; blocks = run.blocks - n }) lt, whole)

-- what is read from a list is there, whatever stands for nothing
default_same : (runs : List Run) (at : ℕ) (d e : Run) → at < length runs → get_or runs at d ≡ get_or runs at e
default_same [] at d e lt = absurd (omega arith)
default_same (run ∷ runs) zero d e lt = refl
default_same (run ∷ runs) (suc at) d e lt = default_same runs at d e (omega arith)

pub run_read : (runs : List Run) (at : ℕ) (run : Run) → at < length runs → run ≡ get_or runs at run → run ≡ get_or runs at no_run
run_read runs at run lt is = is ∙ default_same runs at run no_run lt

-- the first blocks of a run that was read are cut off
pub cuts_read : (runs : List Run) (at n : ℕ) (run : Run) → at < length runs → run ≡ get_or runs at run → n ≤ run.blocks → CutsRun runs (set runs at (record { first = run.first + n; blocks = run.blocks - n })) (record { first = run.first; blocks = n })
cuts_read runs at n run lt is few = subst (λ (r : Run). n ≤ r.blocks → CutsRun runs (set runs at (record { first = r.first + n; blocks = r.blocks - n })) (record { first = r.first; blocks = n })) (sym (run_read runs at run lt is)) (cuts_front runs at n lt) few

-- a run that was read gives its place to both joined
pub gains_read : (runs : List Run) (at : ℕ) (front run both : Run) → at < length runs → front ≡ get_or runs at front → IsJoined front run both → GainsRun runs (set runs at both) run
gains_read runs at front run both lt is joined = gains_set runs at run both lt (subst (λ (r : Run). IsJoined r run both) (run_read runs at front lt is) joined)

-- the next of some runs
pub take_times : (b : ℕ) (runs : List Run) (k : ℕ) → k < length runs → times b (blocks_in (take (k + 1) runs)) ≡ times b (blocks_in (take k runs)) + times b (blocks_in_run (get_or runs k no_run))
take_times b runs k lt = omega (arith, times-blocks_in b (take (k + 1) runs), times-blocks_in b (take k runs), sum_by_more (λ (r : Run). times b (blocks_in_run r)) runs k no_run lt)

pub drop_times : (b : ℕ) (runs : List Run) (k : ℕ) → k < length runs → times b (blocks_in (drop k runs)) ≡ times b (blocks_in_run (get_or runs k no_run)) + times b (blocks_in (drop (k + 1) runs))
drop_times b runs k lt = omega (arith, times-blocks_in b (drop k runs), times-blocks_in b (drop (k + 1) runs), sum_by-drop_more (λ (r : Run). times b (blocks_in_run r)) runs k no_run lt)

-- what is read at an offset is the run there
pub run_there : (runs : List Run) (at : ℕ) (run other : Run) → run ≡ get_or runs at run → slice_get runs at ≡ Some other → run ≡ other
run_there [] at run other is there = absurd (cc there)
run_there (front ∷ runs) zero run other is there = let same : front ≡ other = cc there in is ∙ same
run_there (front ∷ runs) (suc at) run other is there = run_there runs at run other is there

pub within_there : (runs : List Run) (at : ℕ) (other : Run) → slice_get runs at ≡ Some other → at < length runs
within_there [] at other there = absurd (cc there)
within_there (front ∷ runs) zero other there = omega arith
within_there (front ∷ runs) (suc at) other there = let less = within_there runs at other there in omega arith
