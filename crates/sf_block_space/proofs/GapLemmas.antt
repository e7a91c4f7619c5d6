-- A run that is put among others.
use Rattle.std.proofs.Common.{◌≡◌, ℕ, ◌+◌, ◌≤◌, List, [], ◌∷◌, ◌++◌, length, sym, ap, ◌∙◌, append_assoc, subst, arith}
use Rattle.std.specs.List.{range_with_len}
use Rattle.std.proofs.lemmas.List.{append-nil, length-append}
use Rattle.std.proofs.lemmas.Grind.{flat_map-append}
use Rattle.sf_types.specs.declared.run.Run.{Run}
use Rattle.sf_types.specs.Space.BlockRuns.{blocks_in, blocks_in_run}
use Rattle.sf_types.proofs.RunLemmas.{range-split}
use Rattle.sf_block_space.specs.Free.{AreFreeRuns, AreFreeRunsFrom, Gains}
use Rattle.sf_block_space.specs.Inside.{BeginsFrom}
use Rattle.sf_block_space.proofs.MemberLemmas.{gains-from}
use Rattle.sf_block_space.proofs.OrderLemmas.{behind, free-from, past, with-others}

-- what a run that was put among others has changed
pub record Put (capacity : ℕ) (runs more : List Run) (run : Run) : Type 0 where
  pub gains : Gains runs more (run ∷ [])
  pub order : AreFreeRuns capacity more
  pub size : length more ≤ length runs + 1

-- two runs in one, where the second follows the first
abbrev pub joined : Run → Run → Run
joined run next = record { first = run.first; blocks = run.blocks + next.blocks }

pub joined-blocks : (run next : Run) → run.first + run.blocks ≡ next.first → blocks_in_run (joined run next) ≡ blocks_in_run run ++ blocks_in_run next
joined-blocks run next touching =
    range-split run.first run.blocks next.blocks
    ∙ ap (λ k. blocks_in_run run ++ range_with_len k next.blocks) touching

-- a run that touches no other
pub put-alone : (capacity : ℕ) (before after : List Run) (run : Run) → AreFreeRuns capacity (before ++ after) → 1 ≤ run.blocks → run.first + run.blocks ≤ capacity → past 0 before ≤ run.first → BeginsFrom (run.first + run.blocks + 1) after → Put capacity (before ++ after) (before ++ run ∷ after) run
put-alone capacity before after run free some ends from first = record {
  gains = gains-from (before ++ after) (before ++ run ∷ after) (run ∷ []) (blocks_in before) (blocks_in_run run) (blocks_in after)
      (flat_map-append blocks_in_run before after)
      (flat_map-append blocks_in_run before (run ∷ after))
      (append-nil (blocks_in_run run));
  order = with-others 0 capacity before after (run ∷ after) free
      (from, some, ends, free-from (past 0 before) (run.first + run.blocks + 1) capacity after (behind 0 capacity before after free) first);
  size = omega (arith, length-append before after, length-append before (run ∷ after));
}

-- a run that touches the next one
pub put-before : (capacity : ℕ) (before after : List Run) (run next : Run) → AreFreeRuns capacity (before ++ next ∷ after) → 1 ≤ run.blocks → past 0 before ≤ run.first → run.first + run.blocks ≡ next.first → Put capacity (before ++ next ∷ after) (before ++ joined run next ∷ after) run
put-before capacity before after run next free some from touching =
    let own = blocks_in_run run in
    let others = blocks_in_run next in
    let old = behind 0 capacity before (next ∷ after) free in
    let end : next.first + next.blocks + 1 ≡ run.first + (run.blocks + next.blocks) + 1 = omega (arith, touching) in
    record {
      gains = gains-from (before ++ next ∷ after) (before ++ joined run next ∷ after) (run ∷ []) (blocks_in before) own (others ++ blocks_in after)
          (flat_map-append blocks_in_run before (next ∷ after))
          (flat_map-append blocks_in_run before (joined run next ∷ after)
          ∙ ap (λ (xs : List ℕ). blocks_in before ++ (xs ++ blocks_in after)) (joined-blocks run next touching)
          ∙ ap (λ (xs : List ℕ). blocks_in before ++ xs) (append_assoc own others (blocks_in after)))
          (append-nil own);
      order = with-others 0 capacity before (next ∷ after) (joined run next ∷ after) free
          (from, omega (arith, some), omega (arith, old.2, touching), subst (λ k. AreFreeRunsFrom k capacity after) end old.3);
      size = omega (arith, length-append before (next ∷ after), length-append before (joined run next ∷ after));
    }

-- a run that touches the one before it
pub put-behind : (capacity : ℕ) (before after : List Run) (last run : Run) → AreFreeRuns capacity (before ++ last ∷ after) → 1 ≤ run.blocks → run.first + run.blocks ≤ capacity → last.first + last.blocks ≡ run.first → BeginsFrom (run.first + run.blocks + 1) after → Put capacity (before ++ last ∷ after) (before ++ joined last run ∷ after) run
put-behind capacity before after last run free some ends touching first =
    let own = blocks_in_run run in
    let others = blocks_in_run last in
    let old = behind 0 capacity before (last ∷ after) free in
    let end : run.first + run.blocks + 1 ≡ last.first + (last.blocks + run.blocks) + 1 = omega (arith, touching) in
    record {
      gains = gains-from (before ++ last ∷ after) (before ++ joined last run ∷ after) (run ∷ []) (blocks_in before ++ others) own (blocks_in after)
          (flat_map-append blocks_in_run before (last ∷ after) ∙ sym (append_assoc (blocks_in before) others (blocks_in after)))
          (flat_map-append blocks_in_run before (joined last run ∷ after)
          ∙ ap (λ (xs : List ℕ). blocks_in before ++ (xs ++ blocks_in after)) (joined-blocks last run touching)
          ∙ ap (λ (xs : List ℕ). blocks_in before ++ xs) (append_assoc others own (blocks_in after))
          ∙ sym (append_assoc (blocks_in before) others (own ++ blocks_in after)))
          (append-nil own);
      order = with-others 0 capacity before (last ∷ after) (joined last run ∷ after) free (
        old.0,
        omega (arith, some),
        omega (arith, touching, ends),
        subst (λ k. AreFreeRunsFrom k capacity after) end (free-from (last.first + last.blocks + 1) (run.first + run.blocks + 1) capacity after old.3 first),
      );
      size = omega (arith, length-append before (last ∷ after), length-append before (joined last run ∷ after));
    }

-- a run that touches both
pub put-between : (capacity : ℕ) (before after : List Run) (last run next : Run) → AreFreeRuns capacity (before ++ last ∷ next ∷ after) → 1 ≤ run.blocks → last.first + last.blocks ≡ run.first → run.first + run.blocks ≡ next.first → Put capacity (before ++ last ∷ next ∷ after) (before ++ joined (joined last run) next ∷ after) run
put-between capacity before after last run next free some touching touched =
    let own = blocks_in_run run in
    let others = blocks_in_run last in
    let then = blocks_in_run next in
    let both : last.first + (last.blocks + run.blocks) ≡ next.first = omega (arith, touching, touched) in
    let old = behind 0 capacity before (last ∷ next ∷ after) free in
    let end : next.first + next.blocks + 1 ≡ last.first + (last.blocks + run.blocks + next.blocks) + 1 = omega (arith, touching, touched) in
    record {
      gains = gains-from (before ++ last ∷ next ∷ after) (before ++ joined (joined last run) next ∷ after) (run ∷ []) (blocks_in before ++ others) own (then ++ blocks_in after)
          (flat_map-append blocks_in_run before (last ∷ next ∷ after) ∙ sym (append_assoc (blocks_in before) others (then ++ blocks_in after)))
          (flat_map-append blocks_in_run before (joined (joined last run) next ∷ after)
          ∙ ap (λ (xs : List ℕ). blocks_in before ++ (xs ++ blocks_in after)) (joined-blocks (joined last run) next both)
          ∙ ap (λ (xs : List ℕ). blocks_in before ++ ((xs ++ then) ++ blocks_in after)) (joined-blocks last run touching)
          ∙ ap (λ (xs : List ℕ). blocks_in before ++ xs) (append_assoc (others ++ own) then (blocks_in after) ∙ append_assoc others own (then ++ blocks_in after))
          ∙ sym (append_assoc (blocks_in before) others (own ++ (then ++ blocks_in after))))
          (append-nil own);
      order = with-others 0 capacity before (last ∷ next ∷ after) (joined (joined last run) next ∷ after) free
          (old.0, omega (arith, some), omega (arith, touching, touched, old.3.2), subst (λ k. AreFreeRunsFrom k capacity after) end old.3.3);
      size = omega (arith, length-append before (last ∷ next ∷ after), length-append before (joined (joined last run) next ∷ after));
    }
