-- Seats that have just the blocks of some runs, after they gained or lost some.
use Rattle.std.proofs.Common.{◌≡◌, ℕ, ◌+◌, ◌-◌, ◌^◌, ◌<◌, ◌≤◌, List, [], ◌∷◌, ◌++◌, sym, ap, ◌∙◌, arith}
use Rattle.std.specs.List.{range_with_len}
use Rattle.std.proofs.lemmas.List.{append-nil}
use Rattle.sf_types.specs.declared.run.Run.{Run}
use Rattle.sf_types.specs.Space.BlockRuns.{blocks_in, blocks_in_run}
use Rattle.sf_space_words.specs.Blocks.{times, without_blocks, blocks_of_mask, Covers, IsOnce, AreBelow}
use Rattle.sf_space_words.proofs.TimesLemmas.{times-append, times-without_blocks, times-within}
use Rattle.sf_reclaimer.proofs.LeftLemmas.{without-none}
use Rattle.sf_dispensers.specs.Seats.{IsJust}
use Rattle.sf_dispensers.specs.Inside.{GainsRun, GainsMask, CutsRun, EndsWithin}
use Rattle.sf_dispensers.proofs.RunTimesLemmas.{times-push}

-- a seat that gave nothing away
pub just_without_none : (xs : List ℕ) (none runs : List Run) → none ≡ [] → IsJust xs runs → IsJust (without_blocks (blocks_in none) xs) runs
just_without_none xs none runs e just b = ap (λ (l : List Run). times b (without_blocks (blocks_in l) xs)) e ∙ (ap (times b) (without-none xs) ∙ just b)

-- a seat covers what it has just
pub just_covers : (xs : List ℕ) (runs : List Run) (ys : List ℕ) → IsJust xs runs → ((b : ℕ) → times b ys ≤ times b (blocks_in runs)) → Covers xs ys
just_covers xs runs ys just within b = let j = just b in let w = within b in omega arith

pub cut_covers : (xs : List ℕ) (runs left : List Run) (run : Run) → IsJust xs runs → CutsRun runs left run → Covers xs (blocks_in_run run)
cut_covers xs runs left run just cuts b = let j = just b in let c = cuts b in omega arith

-- after a run was cut off, the seat has just those that are left
pub just_cut : (xs : List ℕ) (runs left : List Run) (run : Run) → IsOnce xs → IsJust xs runs → CutsRun runs left run → IsJust (without_blocks (blocks_in_run run) xs) left
just_cut xs runs left run once just cuts b =
    let j = just b in
    let c = cuts b in
    let o = once b in
    let w = times-without_blocks (blocks_in_run run) b xs (omega arith) (omega arith) in omega arith

-- the seat of one run
pub just_run : (run : Run) → IsJust (blocks_in_run run) (run ∷ [])
just_run run b = ap (times b) (sym (append-nil (blocks_in_run run)))

-- a seat that took another in, whose blocks are a run's
pub just_gain : (xs ys : List ℕ) (runs more : List Run) (run : Run) → IsJust xs runs → IsJust ys (run ∷ []) → GainsRun runs more run → IsJust (xs ++ ys) more
just_gain xs ys runs more run just one gains b =
    let j = just b in
    let o = one b in
    let r = just_run run b in
    let g = gains.blocks b in
    omega (arith, times-append b xs ys)

-- a seat that claimed the blocks of a mask
pub just_mask : (xs : List ℕ) (runs more : List Run) (word mask : ℕ) → IsJust xs runs → GainsMask runs more word mask → IsJust (xs ++ blocks_of_mask word mask) more
just_mask xs runs more word mask just gains b =
    let j = just b in
    let g = gains.blocks b in
    omega (arith, times-append b xs (blocks_of_mask word mask))

-- a last run without blocks may go
pub just_whole : (xs : List ℕ) (runs : List Run) (last : Run) → last.blocks ≡ 0 → IsJust xs (runs ++ last ∷ []) → IsJust xs runs
just_whole xs runs last none just b =
    let nothing : times b (blocks_in_run last) ≡ 0 = ap (λ (n : ℕ). times b (range_with_len last.first n)) none in
    let j = just b in
    omega (arith, times-push b runs last)

-- the blocks of a seat's first run are below the capacity, so its end is
pub ends_within : (n : ℕ) (xs : List ℕ) (runs : List Run) → n < 2 ^ 32 → AreBelow n xs → IsJust xs runs → EndsWithin runs
ends_within n xs [] few below just run at some = absurd (cc at)
ends_within n xs (front ∷ runs) few below just run at some =
    let is : front ≡ run = cc at in
    let last : ℕ = run.first + (run.blocks - 1) in
    let there : times last (blocks_in_run run) ≡ 1 = times-within run.first run.blocks last (omega arith) (omega arith) in
    let same : times last (blocks_in_run front) ≡ times last (blocks_in_run run) = ap (λ (r : Run). times last (blocks_in_run r)) is in
    let j = just last in
    let b = below last (omega (arith, times-append last (blocks_in_run front) (blocks_in runs))) in
    omega arith

-- what a seat's type says of its blocks is so of its runs
pub just_once : (xs : List ℕ) (runs : List Run) → IsJust xs runs → IsOnce xs → IsOnce (blocks_in runs)
just_once xs runs just once b = let j = just b in let o = once b in omega arith

pub just_below : (n m : ℕ) (xs : List ℕ) (runs : List Run) → IsJust xs runs → n ≡ m → AreBelow n xs → AreBelow m (blocks_in runs)
just_below n m xs runs just same below b some = let j = just b in let l = below b (omega arith) in omega arith
