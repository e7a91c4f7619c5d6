-- Steps of a release: the blocks of one word of a run, and those of one run.
use Rattle.std.proofs.Common.{◌≡◌, ℕ, ◌+◌, ◌-◌, ◌*◌, ◌<◌, ◌≤◌, List, length, take, drop, get_or, sym, ap, ◌∙◌, arith}
use Rattle.std.specs.List.{range_with_len}
use Rattle.std.proofs.lemmas.List.{take-append-drop}
use Rattle.std.proofs.lemmas.Grind.{flat_map-append}
use Rattle.sf_types.specs.declared.run.Run.{Run}
use Rattle.sf_types.specs.Space.BlockRuns.{blocks_in, blocks_in_run}
use Rattle.sf_types.proofs.RunLemmas.{no_run, next-blocks, range-split}
use Rattle.sf_space_words.specs.declared.limits.TheConstants.{WORD_BLOCKS}
use Rattle.sf_space_words.specs.Blocks.{times, blocks_of_mask, without_mask, without_blocks, AreBelow, Covers, IsOnce}
use Rattle.sf_space_words.proofs.TimesLemmas.{times-append, times-within}
use Rattle.sf_reclaimer.specs.Inside.{mask_between}
use Rattle.sf_reclaimer.proofs.LeftLemmas.{covers_more, without-append}
use Rattle.sf_reclaimer.proofs.MaskLemmas.{mask_times, mask_left}

-- a block of a run that a seat has is below the capacity
pub block_below : (n : ℕ) (xs : List ℕ) (first blocks at : ℕ) → AreBelow n xs → Covers xs (range_with_len first blocks) → at < blocks → first + at < n
block_below n xs first blocks at below covers lt =
    let one = times-within first blocks (first + at) (omega arith) (omega arith) in
    let c = covers (first + at) in below (first + at) (omega arith)

-- a run's first blocks and the next ones are among all its blocks
parts_within : (first done count blocks b : ℕ) → done + count ≤ blocks → times b (range_with_len first done) + times b (range_with_len (first + done) count) ≤ times b (range_with_len first blocks)
parts_within first done count blocks b within =
    let rest : ℕ = blocks - (done + count) in
    let sum : done + count + rest ≡ blocks = omega arith in
    let front : times b (range_with_len first (done + count)) ≡ times b (range_with_len first done) + times b (range_with_len (first + done) count) = ap (times b) (range-split first done count) ∙ times-append b (range_with_len first done) (range_with_len (first + done) count) in
    let whole : times b (range_with_len first blocks) ≡ times b (range_with_len first (done + count)) + times b (range_with_len (first + (done + count)) rest) =
    ap (λ (n : ℕ). times b (range_with_len first n)) (sym sum) ∙ (ap (times b) (range-split first (done + count) rest) ∙ times-append b (range_with_len first (done + count)) (range_with_len (first + (done + count)) rest)) in omega arith

module _ (xs : List ℕ) (first done count word offset mask : ℕ) (at : first + done ≡ WORD_BLOCKS * word + offset) (inside : offset + count ≤ WORD_BLOCKS) (is : mask ≡ mask_between offset (offset + count)) where
  -- the seat has the blocks of the next word
  pub word_covers : (blocks : ℕ) → IsOnce xs → Covers xs (range_with_len first blocks) → done + count ≤ blocks → Covers (without_blocks (range_with_len first done) xs) (blocks_of_mask word mask)
  word_covers blocks once covers within b =
      let c = covers_more xs (range_with_len first done) (range_with_len (first + done) count) (range_with_len first blocks) once (λ k. parts_within first done count blocks k within) covers b in
      let same : times b (blocks_of_mask word mask) ≡ times b (range_with_len (first + done) count) = ap (λ (m : ℕ). times b (blocks_of_mask word m)) is ∙ (mask_times word offset count b inside ∙ ap (λ (n : ℕ). times b (range_with_len n count)) (sym at)) in omega arith

  -- and without them it has what it has without the run's blocks so far
  pub word_left : without_mask word mask (without_blocks (range_with_len first done) xs) ≡ without_blocks (range_with_len first (done + count)) xs
  word_left =
      ap (λ (m : ℕ). without_mask word m (without_blocks (range_with_len first done) xs)) is
      ∙ (mask_left word offset count (without_blocks (range_with_len first done) xs) inside
      ∙ (ap (λ (n : ℕ). without_blocks (range_with_len n count) (without_blocks (range_with_len first done) xs)) (sym at)
      ∙ (sym (without-append (range_with_len first done) (range_with_len (first + done) count) xs)
      ∙ ap (λ (ys : List ℕ). without_blocks ys xs) (sym (range-split first done count)))))

module _ (xs : List ℕ) (runs : List Run) (k : ℕ) (less : k < length runs) where
  next_times : (b : ℕ) → times b (blocks_in (take (k + 1) runs)) ≡ times b (blocks_in (take k runs)) + times b (blocks_in_run (get_or runs k no_run))
  next_times b = ap (times b) (next-blocks runs k less) ∙ times-append b (blocks_in (take k runs)) (blocks_in_run (get_or runs k no_run))

  take_times : (b : ℕ) → times b (blocks_in (take (k + 1) runs)) ≤ times b (blocks_in runs)
  take_times b =
      let parts : times b (blocks_in runs) ≡ times b (blocks_in (take (k + 1) runs)) + times b (blocks_in (drop (k + 1) runs)) =
      ap (λ (rs : List Run). times b (blocks_in rs)) (sym (take-append-drop (k + 1) runs)) ∙ (ap (times b) (flat_map-append blocks_in_run (take (k + 1) runs) (drop (k + 1) runs)) ∙ times-append b (blocks_in (take (k + 1) runs)) (blocks_in (drop (k + 1) runs))) in omega arith

  -- the seat has the blocks of the next run
  pub run_covers : IsOnce xs → Covers xs (blocks_in runs) → Covers (without_blocks (blocks_in (take k runs)) xs) (blocks_in_run (get_or runs k no_run))
  run_covers once covers = covers_more xs (blocks_in (take k runs)) (blocks_in_run (get_or runs k no_run)) (blocks_in runs) once (λ b. let n = next_times b in let t = take_times b in omega arith) covers

  pub run_left : without_blocks (blocks_in_run (get_or runs k no_run)) (without_blocks (blocks_in (take k runs)) xs) ≡ without_blocks (blocks_in (take (k + 1) runs)) xs
  run_left = sym (without-append (blocks_in (take k runs)) (blocks_in_run (get_or runs k no_run)) xs) ∙ ap (λ (ys : List ℕ). without_blocks ys xs) (sym (next-blocks runs k less))
