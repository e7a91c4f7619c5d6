-- Blocks that are granted and come back.
use Rattle.std.proofs.Common.{◌≡◌, ◌∙◌, List, sym, ap, subst}
use Rattle.sf_types.specs.declared.run.Run.{Run}
use Rattle.sf_block_space.specs.Free.{AreFreeRuns, FreeSpace, Gains}
use Rattle.sf_block_space.proofs.SameLemmas.{same-runs}

-- what was granted and has come back leaves the runs as they were
pub returned-same : (old between new : FreeSpace) (granted : List Run) → AreFreeRuns old.capacity old.runs → AreFreeRuns new.capacity new.runs → between.capacity ≡ old.capacity → new.capacity ≡ between.capacity
    → Gains between.runs old.runs granted → Gains between.runs new.runs granted → new ≡ old
returned-same old between new granted old-order new-order granted-same returned-same' left back =
    let capacity = returned-same' ∙ granted-same in
    let runs : new.runs ≡ old.runs = same-runs old.capacity new.runs old.runs (subst (λ k. AreFreeRuns k new.runs) capacity new-order) old-order (λ block. back.blocks block ∙ sym (left.blocks block)) in
    ap (λ k. record { capacity = k; runs = new.runs }) capacity ∙ ap (λ (xs : List Run). record { capacity = old.capacity; runs = xs }) runs
