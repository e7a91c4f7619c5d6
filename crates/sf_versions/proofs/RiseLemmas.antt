-- Versions whose numbers rise.
use Rattle.std.proofs.Common.{ℕ, zero, suc, ◌+◌, ◌<◌, ◌≤◌, [], ◌∷◌, ◌++◌, Option, arith}
use Rattle.std.specs.Prelude.{All}
use Rattle.sf_types.specs.Values.Marks.{Value}
use Rattle.sf_versions.specs.RowChanges.{RowChanges, RiseWithin}
use Rattle.sf_versions.proofs.RowChangeLemmas.{rest}

-- they rise up to a later number too
pub rise_later : (low now later : ℕ) (vs : RowChanges) → now ≤ later → RiseWithin low now vs → RiseWithin low later vs
rise_later low now later [] more rise = tt
rise_later low now later (v ∷ vs) more rise = (rise.0, omega (arith, rise.1, more), rise_later v.0 now later vs more rise.2)

-- with one more behind them, whose number is greater than all
pub rise_added : (low now : ℕ) (vs : RowChanges) (n : ℕ) (x : Option Value) → RiseWithin low now vs → All (λ w. w.0 < n) vs → low < n → n ≤ now → RiseWithin low now (vs ++ (n, x) ∷ [])
rise_added low now [] n x rise all above within = (above, within, tt)
rise_added low now (v ∷ vs) n x rise all above within = (rise.0, rise.1, rise_added v.0 now vs n x rise.2 (rest v vs n all) (all 0 v (omega arith)) within)

-- none has a number past the greatest
pub rise_below : (low now : ℕ) (vs : RowChanges) → RiseWithin low now vs → All (λ w. w.0 < now + 1) vs
rise_below low now [] rise k d below = absurd (omega (arith, below))
rise_below low now (v ∷ vs) rise zero d below = omega (arith, rise.1)
rise_below low now (v ∷ vs) rise (suc k) d below = rise_below v.0 now vs rise.2 k d (omega (arith, below))
