use Rattle.std.proofs.Common.{◌≡◌, ◌-◌, ◌≤◌, ◌++◌, length, drop}
use Rattle.sf_types.specs.Space.Cuts.{contents_of_value}
use Rattle.sf_chunk_map.specs.Inside.Settling.{contents_in}
use Rattle.sf_write_gather.proofs.contents.push_contents.Given as goal

abbrev pub invariant-loop-start : goal.invariant-loop-start
invariant-loop-start l = record {
  within : l.at ≤ length l.value.bytes;
  contents : l.contents ++ contents_in (drop l.at l.value.bytes) ≡ l.initial.contents ++ contents_of_value l.value;
}

abbrev pub decreases-loop-start : goal.decreases-loop-start
decreases-loop-start l = length l.value.bytes - l.at
