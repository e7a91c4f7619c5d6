use Rattle.std.proofs.Common.{◌≡◌, ◌+◌, ℕ, take}
use Rattle.sf_chunk_map.specs.Inside.Counts.{count_at}
use Rattle.sf_session_values.specs.Inside.Counting.{times}
use Rattle.sf_session_values.proofs.row_counts.RowCounts.raise.Given as goal

abbrev pub invariant-loop-at : goal.invariant-loop-at
invariant-loop-at l = (b : ℕ) → count_at l.self b ≡ count_at l.initial.self b + times b (take l.at l.births)
