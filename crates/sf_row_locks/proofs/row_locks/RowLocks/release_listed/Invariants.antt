use Rattle.std.proofs.Common.{◌≡◌, ◌≤◌, drop}
use Rattle.sf_types.specs.Halves.Asks.{without_row_locks}
use Rattle.sf_row_locks.proofs.row_locks.RowLocks.release_listed.Given as goal

-- what is still to be released leaves what is left at the end
abbrev pub invariant-loop-name : goal.invariant-loop-name
invariant-loop-name l = record {
  left : without_row_locks l.self.held l.session (drop l.name-index l.names) ≡ without_row_locks l.initial.self.held l.session l.names;
  spare : l.initial.self.spare ≤ l.self.spare;
}
