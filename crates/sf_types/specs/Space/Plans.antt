-- Where contents go when a store is made small (our own).
use Rattle.std.specs.Prelude.{ℕ, ◌+◌, List, [], ◌∷◌, length}
use Rattle.sf_types.specs.declared.run.Run.{Run}
use Rattle.sf_types.specs.Space.BlockRuns.{blocks_in_run}
use Rattle.sf_types.specs.Space.Placings.{Placed}

-- The plan: contents in their order get one run each, of as many blocks as a content takes, which begins where the one
-- before it ends. `count` tells the blocks of a content, `make` what becomes of a content and its run, and `start` where the
-- first run begins.
abbrev pub planned_from : {X Y : Type 0} → (X → ℕ) → (X → Run → Y) → ℕ → List X → List Y
planned_from count make start [] = []
planned_from count make start (x ∷ xs) =
    make x (record { first = start; blocks = count x }) ∷ planned_from count make (start + count x) xs

-- The places of births by the plan.
abbrev pub planned_places : List Placed → List Placed
planned_places places =
    planned_from (λ x. length x.blocks) (λ x run. record { birth = x.birth; blocks = blocks_in_run run }) 0 places
