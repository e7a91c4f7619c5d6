use Rattle.std.proofs.Common.{◌≡◌, ◌++◌, drop}
use Rattle.sf_types.specs.Space.Cuts.{stored_bytes_from}
use Rattle.sf_plain_table.proofs.settling.stored_bytes.Given as goal

abbrev pub invariant-loop-index : goal.invariant-loop-index
invariant-loop-index l = l.marked.items ++ stored_bytes_from l.birth l.index (drop l.index l.bytes) ≡ stored_bytes_from l.birth 0 l.bytes
