use Rattle.std.proofs.Common.{◌≡◌, take}
use Rattle.sf_types.specs.Values.Marks.{fresh_bytes}
use Rattle.sf_plain_table.proofs.results.fresh_bytes.Given as goal

abbrev pub invariant-loop-byte : goal.invariant-loop-byte
invariant-loop-byte l = l.marked.items ≡ fresh_bytes (take l.byte-index l.bytes)
