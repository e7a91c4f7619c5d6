use Rattle.std.proofs.Common.{◌≡◌, ℕ, ◌+◌, ◌-◌, ◌≤◌, ◌<◌, length, get_or}
use Rattle.sf_types.proofs.RunLemmas.{no_run}
use Rattle.sf_block_space.proofs.maximal_runs.MaximalRuns.offset_of.Given as goal

-- the run before `low` begins before the block, and the one at `high` doesn't
abbrev pub invariant-loop-low : goal.invariant-loop-low
invariant-loop-low l = record {
  order : l.low ≤ l.high;
  within : l.high ≤ length l.self-inside.runs.items;
  before : (at : ℕ) → l.low ≡ at + 1 → (get_or l.self-inside.runs.items at no_run).first < l.block;
  behind : l.high < length l.self-inside.runs.items → l.block ≤ (get_or l.self-inside.runs.items l.high no_run).first;
}

abbrev pub decreases-loop-low : goal.decreases-loop-low
decreases-loop-low l = l.high - l.low
