use Rattle.std.proofs.Common.{◌≡◌, ℕ, ◌+◌, ◌^◌, ◌<◌, ◌≤◌, Some}
use Rattle.std.specs.Prelude.{slice_get}
use Rattle.sf_types.specs.declared.run.Run.{Run}
use Rattle.sf_dispensers.specs.Inside.{Touches}
use Rattle.sf_dispensers.proofs.neighbours.join_run.Given as goal

-- nothing was joined so far, since nothing could be
abbrev pub invariant-loop-at : goal.invariant-loop-at
invariant-loop-at l = record {
  same : l.runs ≡ l.initial.runs;
  none : (at : ℕ) (other : Run) → at < l.at → slice_get l.initial.runs.items at ≡ Some other → Touches other l.run → 2 ^ 32 ≤ other.blocks + l.run.blocks;
}
