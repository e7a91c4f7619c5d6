-- The ledger of the tests (our own).
use Rattle.std.specs.Prelude.{◌≡◌, ℕ, List, [], ◌∷◌}
use Rattle.std.specs.FinMap as fin
use Rattle.sf_types.specs.declared.holder.Holder.{Holder}
use Rattle.sf_types.specs.declared.run.Run.{Run}
use Rattle.sf_lifetimes.specs.Ledgers.{Places, LedgerView}

-- A place of one block.
abbrev pub single_block : ℕ → List Run
single_block block = record { first = block; blocks = 1 } ∷ []

-- Birth 1 at the block 4, and birth 2 at the block 1.
abbrev pub two_places : Places
two_places = fin.insert (fin.insert fin.empty 1 (single_block 4)) 2 (single_block 1)

-- One holder alone holds both births.
pub record HoldsBoth (ledger : LedgerView) (holder : Holder) : Type 0 where
  pub places : ledger.places ≡ two_places
  pub holdings : ledger.holdings ≡ fin.insert fin.empty holder (1 ∷ 2 ∷ [])
