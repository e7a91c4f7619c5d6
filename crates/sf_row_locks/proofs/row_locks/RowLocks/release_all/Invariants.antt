use Rattle.std.proofs.Common.{◌≡◌, ◌≤◌, length}
use Rattle.sf_types.specs.Table.Sessions.{without_locks}
use Rattle.sf_row_locks.proofs.row_locks.RowLocks.release_all.Given as goal

-- the locks of other sessions are as before
abbrev pub invariant-loop : goal.invariant-loop
invariant-loop l = record {
  others : without_locks l.self.held l.session ≡ without_locks l.initial.self.held l.session;
  spare : l.initial.self.spare ≤ l.self.spare;
}

abbrev pub decreases-loop : goal.decreases-loop
decreases-loop l = length l.self.held
