use Rattle.std.proofs.Common.{ℕ, ◌≤◌, ◌<◌, length, get_or}
use Rattle.sf_types.proofs.RunLemmas.{no_run}
use Rattle.sf_block_space.proofs.maximal_runs.MaximalRuns.next_offset.Given as goal

-- no run before this one has n blocks, and the longest of them stands at `longest`
abbrev pub invariant-loop-at : goal.invariant-loop-at
invariant-loop-at l = record {
  within : l.longest < length l.self-inside.runs.items;
  fewer : (k : ℕ) → k < l.at → (get_or l.self-inside.runs.items k no_run).blocks < l.n;
  most : (k : ℕ) → k < l.at → (get_or l.self-inside.runs.items k no_run).blocks ≤ (get_or l.self-inside.runs.items l.longest no_run).blocks;
  lowest : (k : ℕ) → k < l.longest → (get_or l.self-inside.runs.items k no_run).blocks < (get_or l.self-inside.runs.items l.longest no_run).blocks;
}
