use Rattle.std.proofs.Common.{◌≡◌, ℕ, ◌+◌, ◌-◌, ◌<◌, ◌≤◌}
use Rattle.sf_versions.specs.Inside.Spans.{version_at}
use Rattle.sf_versions.proofs.places.count_up_to.Given as goal

-- the versions before `low` have numbers up to the number, and those from `high` on have greater ones
abbrev pub invariant-loop-low : goal.invariant-loop-low
invariant-loop-low l = record {
  order : l.low ≤ l.high;
  within : l.high ≤ l.span.count;
  before : (at : ℕ) → at + 1 ≡ l.low → (version_at l.versions.held l.span.row (l.span.first + at)).0 ≤ l.number;
  after : l.high < l.span.count → l.number < (version_at l.versions.held l.span.row (l.span.first + l.high)).0;
}

abbrev pub decreases-loop-low : goal.decreases-loop-low
decreases-loop-low l = l.high - l.low
