-- Blocks below the capacity of a store.
use Rattle.std.proofs.Common.{ℕ, ◌≤◌, ◌<◌, ◌^◌, List, [], ◌∷◌, arith}
use Rattle.std.specs.Prelude.{All}
use Rattle.std.specs.List.{AllByRecursion as Each}
use Rattle.std.proofs.lemmas.List.Elements.{All-from_recursion, recursion_from_All}
use Rattle.sf_types.specs.declared.limits.TheConstants.{STORE_BLOCKS}
use Rattle.sf_types.specs.declared.options.Options.{Options}
use Rattle.sf_types.specs.Limits.{IsInRange}

-- blocks below the capacity are below 2^32
pub in_words : (options : Options) (blocks : List ℕ) → IsInRange options → All (λ block. block < options.capacity) blocks → All (λ block. block < 2 ^ 32) blocks
in_words options blocks range below = All-from_recursion (λ block. block < 2 ^ 32) blocks (lower blocks (recursion_from_All (λ block. block < options.capacity) blocks below))
  where
    lower : (bs : List ℕ) → Each (λ block. block < options.capacity) bs → Each (λ block. block < 2 ^ 32) bs
    lower [] all = tt
    lower (b ∷ bs) all =
        let low = all.0 in
        let high : options.capacity ≤ STORE_BLOCKS = range.capacity_high in
        (omega (arith, low, high), lower bs all.1)
