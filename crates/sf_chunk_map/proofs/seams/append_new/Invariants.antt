use Rattle.std.proofs.Common.{◌≡◌, ◌++◌, length}
use Rattle.sf_chunk_map.specs.Pieces.{marked_in}
use Rattle.sf_chunk_map.proofs.seams.append_new.Given as goal

abbrev pub invariant-loop-piece : goal.invariant-loop-piece
invariant-loop-piece l = marked_in l.tree ++ marked_in l.new ≡ marked_in l.initial.tree ++ marked_in l.initial.new

abbrev pub decreases-loop-piece : goal.decreases-loop-piece
decreases-loop-piece l = length l.tree
