use Rattle.std.proofs.Common.{◌≡◌, ◌≤◌, ◌-◌, take}
use Rattle.sf_types.specs.Values.Marks.{size_of}
use Rattle.sf_chunk_map.specs.Pieces.{marked_in}
use Rattle.sf_chunk_map.proofs.map.Map.pieces_from.Given as goal

abbrev pub invariant-loop-joined : goal.invariant-loop-joined
invariant-loop-joined l = record {
  most : l.at ≤ size_of l.self;
  bytes : marked_in l.joined ≡ take l.at l.self.bytes;
}

abbrev pub decreases-loop-joined : goal.decreases-loop-joined
decreases-loop-joined l = size_of l.self - l.at
