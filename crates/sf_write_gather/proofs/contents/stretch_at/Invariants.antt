use Rattle.std.proofs.Common.{◌≡◌, ◌+◌, ◌-◌, ◌≤◌, length}
use Rattle.sf_types.specs.Values.Marks.{fresh_bytes}
use Rattle.sf_chunk_map.specs.Contents.{window}
use Rattle.sf_write_gather.proofs.contents.stretch_at.Given as goal

abbrev pub invariant-loop-more : goal.invariant-loop-more
invariant-loop-more l = record {
  within : l.at + length l.bytes.items ≤ length l.value.bytes;
  bytes : window l.at (length l.bytes.items) l.value.bytes ≡ fresh_bytes l.bytes.items;
}

abbrev pub decreases-loop-more : goal.decreases-loop-more
decreases-loop-more l = length l.value.bytes - length l.bytes.items
