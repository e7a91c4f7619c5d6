use Rattle.std.proofs.Common.{◌≡◌, ◌+◌, ◌≤◌, ◌++◌, length}
use Rattle.sf_types.specs.Table.Parts.{Rows}
use Rattle.sf_versions.specs.VersionTables.{with_versions}
use Rattle.sf_versions.specs.Inside.Spans.{AreSpans, rows_in}
use Rattle.sf_versions.proofs.places.add_versions.Given as goal

-- the changes at the end are made
abbrev pub invariant-loop-change : goal.invariant-loop-change
invariant-loop-change l = record {
  done : Rows;
  split : l.fn.changes ≡ l.rest.items ++ done;
  spans : AreSpans l.number l.spans.held l.versions.held;
  rows : rows_in l.versions.held l.spans.held ≡ with_versions (rows_in l.fn.versions.held l.fn.spans.held) l.number done;
  spans_spare : l.fn.spans.spare ≤ l.spans.spare + length done;
  versions_spare : l.fn.versions.spare ≤ l.versions.spare + length done;
}

abbrev pub decreases-loop-change : goal.decreases-loop-change
decreases-loop-change l = length l.rest.items
