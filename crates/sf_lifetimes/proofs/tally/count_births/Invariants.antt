use Rattle.std.proofs.Common.{◌≡◌, ◌≤◌, ◌^◌, ℕ, cond, take}
use Rattle.std.specs.FinMap as fin
use Rattle.sf_lifetimes.specs.Ledgers.{has_birth}
use Rattle.sf_lifetimes.specs.Inside.Counts.{live_sum}
use Rattle.sf_lifetimes.specs.Inside.Tallies.{counted_off}
use Rattle.sf_lifetimes.proofs.tally.count_births.Given as goal

-- a holder of each birth before this one was counted off
abbrev pub invariant-loop-birth : goal.invariant-loop-birth
invariant-loop-birth l = record {
  counted : (q : ℕ) → fin.get l.tally q ≡ cond (has_birth (take l.birth-index l.births) q) (counted_off (fin.get l.places.held q) (fin.get l.fn.tally q)) (fin.get l.fn.tally q);
  few : live_sum l.places.held ≤ 2 ^ 32;
}
