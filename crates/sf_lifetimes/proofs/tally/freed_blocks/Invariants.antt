use Rattle.std.proofs.Common.{◌≡◌, ℕ, take}
use Rattle.std.specs.FinMap as fin
use Rattle.sf_lifetimes.specs.Inside.Tallies.{tally_of, number_among}
use Rattle.sf_lifetimes.proofs.tally.freed_blocks.Given as goal

-- the holders before this one were counted off
abbrev pub invariant-loop-holder : goal.invariant-loop-holder
invariant-loop-holder l = (q : ℕ) → fin.get l.tally q ≡ tally_of (fin.get l.places.held q) (number_among l.holdings.held (take l.holder-index l.holders) q)
