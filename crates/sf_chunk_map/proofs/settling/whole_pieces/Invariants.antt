use Rattle.std.proofs.Common.{◌≡◌, take}
use Rattle.std.specs.Prelude.{map}
use Rattle.sf_chunk_map.specs.Inside.Settling.{whole_piece}
use Rattle.sf_chunk_map.proofs.settling.whole_pieces.Given as goal

abbrev pub invariant-loop-chunk : goal.invariant-loop-chunk
invariant-loop-chunk l = l.pieces ≡ map whole_piece (take l.chunk-index l.chunk-items)
